-- The meaning of an expression from a state: a success, a failure, or neither.
use Rattle.std.specs.Prelude.{◌≡◌, ℕ, ◌-◌, min, List, [], ◌∷◌, ◌++◌, Option, Some, None, Bool, true, false, ◌||◌, ℤ, if◌then◌else◌, bytes_eq, nat_eq, length, take, replicate}
use Rattle.std.specs.Char.{eq_ignore_ascii_case}
use Rattle.base_language.specs.Language.Text.{Text}
use Rattle.base_language.specs.Language.Expression.{Expression, Str, Insens, Range, Ident, PeekSlice, PosPred, NegPred, Seq, Choice, Opt, Rep, RepOnce, RepExact, RepMin, RepMax, RepMinMax, Skip, Push, RestoreOnErr, RuleType, Normal, Silent, Atomic, CompoundAtomic, NonAtomic, Rule, Grammar, rule_of, whitespace, comment, PushLiteral, NodeTag}
use Rattle.base_language.specs.Language.State.{Mode, NonAtomicMode, AtomicMode, CompoundAtomicMode, Between, State, Trees, None', Tree, joined, Outcome, Success, Failure, Classes, moved}
use Rattle.base_language.specs.Language.Matching.{text_outcome, character_outcome, range_set, slice_outcome, distance, other_outcome}

-- the mode of a rule's body, by its type, its name and the caller's mode
abbrev pub inherited : Bool → Mode → Mode
inherited true m = AtomicMode
inherited false Between = NonAtomicMode
inherited false NonAtomicMode = NonAtomicMode
inherited false AtomicMode = AtomicMode
inherited false CompoundAtomicMode = CompoundAtomicMode

abbrev pub mode_in : RuleType → Bool → Mode → Mode
mode_in Atomic blank m = AtomicMode
mode_in CompoundAtomic blank m = CompoundAtomicMode
mode_in NonAtomic blank m = if blank then AtomicMode else NonAtomicMode
mode_in Normal blank m = inherited blank m
mode_in Silent blank m = inherited blank m

abbrev pub body_mode : Rule → Mode → Mode
body_mode r m = mode_in r.type_of (bytes_eq r.name whitespace || bytes_eq r.name comment) m

-- whether a rule of a type gives a token to a caller's mode
abbrev pub seen_from : Mode → Bool
seen_from AtomicMode = false
seen_from NonAtomicMode = true
seen_from CompoundAtomicMode = true
seen_from Between = true

abbrev pub gives_token : RuleType → Mode → Bool
gives_token Normal m = seen_from m
gives_token Silent m = false
gives_token Atomic m = seen_from m
gives_token CompoundAtomic m = true
gives_token NonAtomic m = true

abbrev pub with_token : Rule → Mode → State → Outcome → Outcome
with_token r m s Failure = Failure
with_token r m s (Success t us) =
    Success t (if gives_token r.type_of m then Tree r.name s.position t.position us None' else us)

-- predicates
abbrev pub ahead : State → Outcome → Outcome
ahead s Failure = Failure
ahead s (Success t us) = Success s None'

abbrev pub not_ahead : State → Outcome → Outcome
not_ahead s Failure = Success s None'
not_ahead s (Success t us) = Failure

-- the text from one state to a later one, on the stack
abbrev pub pushed : State → Outcome → Outcome
pushed s Failure = Failure
pushed s (Success t us) =
    Success (record t { stack = take (length s.rest - length t.rest) s.rest ∷ t.stack }) us

-- with a text on top of the stack
abbrev pub with_top : Text → State → State
with_top t s = record s { stack = t ∷ s.stack }

-- expressions in sequence, nested to the right
abbrev pub in_sequence : List Expression → Expression
in_sequence [] = Str []
in_sequence (e ∷ []) = e
in_sequence (e ∷ f ∷ es) = Seq e (in_sequence (f ∷ es))

-- the expansions of repetitions other than `*`
abbrev pub once_or_more : Expression → Expression
once_or_more e = Seq e (Rep e)

abbrev pub exactly : Expression → ℕ → Expression
exactly e n = in_sequence (replicate n e)

abbrev pub at_least : Expression → ℕ → Expression
at_least e n = in_sequence (replicate n e ++ Rep e ∷ [])

abbrev pub at_most : Expression → ℕ → Expression
at_most e n = in_sequence (replicate n (Opt e))

abbrev pub from_to : Expression → ℕ → ℕ → Expression
from_to e m n = in_sequence (replicate (min m n) e ++ replicate (n - m) (Opt e))

-- the implicit skipping
abbrev pub skipped : Expression
skipped = Seq (Rep (Ident whitespace)) (Rep (Seq (Ident comment) (Rep (Ident whitespace))))

-- the tasks of a match: an expression, the turns of a repetition after its first, and the implicit skipping
pub data Task : Type 0 where
  Run : Mode → Expression → Task
  Turns : Mode → Expression → Task
  Skipping : Mode → Task

-- `Does g classes k s o`: the task k from s has the outcome o
module _ (g : Grammar) (classes : Classes) where
  pub data Does : Task → State → Outcome → Type 0 where
    str : {m : Mode} {t : Text} {s : State} → Does (Run m (Str t)) s (text_outcome nat_eq t s)
    insens : {m : Mode} {t : Text} {s : State}
        → Does (Run m (Insens t)) s (text_outcome eq_ignore_ascii_case t s)
    range : {m : Mode} {a b : Text} {s : State}
        → Does (Run m (Range a b)) s (character_outcome (range_set a b) s)
    slice : {m : Mode} {i : ℤ} {j : Option ℤ} {s : State}
        → Does (Run m (PeekSlice i j)) s (slice_outcome i j s)
    skip : {m : Mode} {ts : List Text} {s : State}
        → Does (Run m (Skip ts)) s (Success (moved (distance ts s.rest) s) None')
    call : {m : Mode} {n : Text} {s : State} {o : Outcome} {r : Rule} → rule_of g n ≡ Some r
        → Does (Run (body_mode r m) r.body) s o → Does (Run m (Ident n)) s (with_token r m s o)
    other : {m : Mode} {n : Text} {s : State} {o : Outcome} → rule_of g n ≡ None
        → other_outcome classes m n s ≡ Some o → Does (Run m (Ident n)) s o
    pos_pred : {m : Mode} {e : Expression} {s : State} {o : Outcome} → Does (Run m e) s o
        → Does (Run m (PosPred e)) s (ahead s o)
    neg_pred : {m : Mode} {e : Expression} {s : State} {o : Outcome} → Does (Run m e) s o
        → Does (Run m (NegPred e)) s (not_ahead s o)
    push : {m : Mode} {e : Expression} {s : State} {o : Outcome} → Does (Run m e) s o
        → Does (Run m (Push e)) s (pushed s o)
    push_literal : {m : Mode} {t : Text} {s : State}
        → Does (Run m (PushLiteral t)) s (Success (with_top t s) None')
    tag : {m : Mode} {e : Expression} {t : Text} {s : State} {o : Outcome} → Does (Run m e) s o
        → Does (Run m (NodeTag e t)) s o
    restore : {m : Mode} {e : Expression} {s : State} {o : Outcome} → Does (Run m e) s o
        → Does (Run m (RestoreOnErr e)) s o
    seq : {m : Mode} {a b : Expression} {s t u v : State} {us vs ws : Trees}
        → Does (Run m a) s (Success t us) → Does (Skipping m) t (Success u vs)
        → Does (Run m b) u (Success v ws) → Does (Run m (Seq a b)) s (Success v (joined us (joined vs ws)))
    seq_first : {m : Mode} {a b : Expression} {s : State} → Does (Run m a) s Failure
        → Does (Run m (Seq a b)) s Failure
    seq_second : {m : Mode} {a b : Expression} {s t u : State} {us vs : Trees}
        → Does (Run m a) s (Success t us) → Does (Skipping m) t (Success u vs) → Does (Run m b) u Failure
        → Does (Run m (Seq a b)) s Failure
    left : {m : Mode} {a b : Expression} {s t : State} {us : Trees} → Does (Run m a) s (Success t us)
        → Does (Run m (Choice a b)) s (Success t us)
    right : {m : Mode} {a b : Expression} {s : State} {o : Outcome} → Does (Run m a) s Failure
        → Does (Run m b) s o → Does (Run m (Choice a b)) s o
    opt : {m : Mode} {e : Expression} {s t : State} {us : Trees} → Does (Run m e) s (Success t us)
        → Does (Run m (Opt e)) s (Success t us)
    opt_none : {m : Mode} {e : Expression} {s : State} → Does (Run m e) s Failure
        → Does (Run m (Opt e)) s (Success s None')
    rep : {m : Mode} {e : Expression} {s t u : State} {us vs : Trees} → Does (Run m e) s (Success t us)
        → Does (Turns m e) t (Success u vs) → Does (Run m (Rep e)) s (Success u (joined us vs))
    rep_none : {m : Mode} {e : Expression} {s : State} → Does (Run m e) s Failure
        → Does (Run m (Rep e)) s (Success s None')
    turn : {m : Mode} {e : Expression} {s t u v : State} {us vs ws : Trees}
        → Does (Skipping m) s (Success t us) → Does (Run m e) t (Success u vs)
        → Does (Turns m e) u (Success v ws) → Does (Turns m e) s (Success v (joined us (joined vs ws)))
    turn_none : {m : Mode} {e : Expression} {s t : State} {us : Trees} → Does (Skipping m) s (Success t us)
        → Does (Run m e) t Failure → Does (Turns m e) s (Success s None')
    rep_once : {m : Mode} {e : Expression} {s : State} {o : Outcome} → Does (Run m (once_or_more e)) s o
        → Does (Run m (RepOnce e)) s o
    rep_exact : {m : Mode} {e : Expression} {i : ℕ} {s : State} {o : Outcome}
        → Does (Run m (exactly e i)) s o → Does (Run m (RepExact e i)) s o
    rep_min : {m : Mode} {e : Expression} {i : ℕ} {s : State} {o : Outcome}
        → Does (Run m (at_least e i)) s o → Does (Run m (RepMin e i)) s o
    rep_max : {m : Mode} {e : Expression} {i : ℕ} {s : State} {o : Outcome}
        → Does (Run m (at_most e i)) s o → Does (Run m (RepMax e i)) s o
    rep_min_max : {m : Mode} {e : Expression} {i j : ℕ} {s : State} {o : Outcome}
        → Does (Run m (from_to e i j)) s o → Does (Run m (RepMinMax e i j)) s o
    skips : {s : State} {o : Outcome} → Does (Run Between skipped) s o → Does (Skipping NonAtomicMode) s o
    atomic : {s : State} → Does (Skipping AtomicMode) s (Success s None')
    compound_atomic : {s : State} → Does (Skipping CompoundAtomicMode) s (Success s None')
    between : {s : State} → Does (Skipping Between) s (Success s None')

abbrev pub Matches : Grammar → Classes → Expression → Mode → State → Outcome → Type 0
Matches g classes e m s o = Does g classes (Run m e) s o
