-- The state of a match, and its outcome.
use Rattle.std.specs.Prelude.{ℕ, List, Bool, ◌+◌, take, drop, ⊤}
use Rattle.base_language.specs.Language.Text.{Text, size_of}

-- the atomicity; `Between` is that of the implicit skipping itself: nothing is skipped between its parts, its
-- calls are as in NonAtomic, and one of its names that is not defined fails
pub data Mode : Type 0 where
  NonAtomicMode : Mode
  AtomicMode : Mode
  CompoundAtomicMode : Mode
  Between : Mode

-- the modes in which the bodies of rules run, whatever the caller's: all but `Between`. In that mode a name
-- that is no rule's fails, and so do PEEK and POP on an empty stack, which in these three have no outcome:
-- so a claim that a start has no outcome, as one on a read of an empty stack, is about these modes alone
abbrev pub IsRuleMode : Mode → Type 0
IsRuleMode NonAtomicMode = ⊤
IsRuleMode AtomicMode = ⊤
IsRuleMode CompoundAtomicMode = ⊤
IsRuleMode Between = ⊥

-- the position in bytes, the characters from here on, and the stack, its top first
pub record State : Type 0 where
  pub position : ℕ
  pub rest : Text
  pub stack : List Text

-- the state n characters on
abbrev pub moved : ℕ → State → State
moved n s = record { position = s.position + size_of (take n s.rest); rest = drop n s.rest; stack = s.stack }

-- token trees: the first tree, the trees inside it, and the trees after it
pub data Trees : Type 0 where
  None' : Trees
  Tree : (rule : Text) (start end_ : ℕ) (inner others : Trees) → Trees

-- the first trees, and then the second
abbrev pub joined : Trees → Trees → Trees
joined None' u = u
joined (Tree r i j inner others) u = Tree r i j inner (joined others u)

-- a success has an end and token trees; a failure carries nothing
pub data Outcome : Type 0 where
  Success : State → Trees → Outcome
  Failure : Outcome

-- the set of characters of each property name
abbrev pub Classes : Type 0
Classes = Text → ℕ → Bool
