-- From which stacks the code visits nodes, and what it reports.
use Rattle.std.specs.Prelude.{◌≡◌, ℕ, ◌+◌, ◌<◌, List, [], ◌∷◌, ◌++◌, Some, Bool, true, false, ◌⊎◌, slice_get, map, ⊤}
use Rattle.base_graphs.specs.Least.{is_set_at}
use Rattle.front_spanned.specs.Nodes.{piece_of}
use Rattle.front_spanned.specs.Spanned.{Span, Spanned, Leaf, One, Two}
use Rattle.front_stack_domain.specs.Stack.{AbstractStack, In, entry}
use Rattle.front_stack_domain.specs.Reading as says
use Rattle.front_stack_domain.specs.Reading.{loops, Copy}
use Rattle.front_stack_loops.specs.Table.{IsMeaning, copies, nodes_of, parts_of}
use Rattle.front_stack_loops.specs.Memory.{Meaning, IsRight}
use Rattle.front_stack_loops.specs.Following.{seen_stacks}
use Rattle.front_stack_loops.specs.Waiting.{IsLow, effort_of}
use Rattle.front_stack_domain.specs.Walks.{next_after}
use Rattle.front_stack_domain.specs.Reported.{starts, copies_of, is_endless, is_choice, ReportedIn}
use Rattle.front_stack_domain.specs.Views.{possible}
use Rattle.front_stack_domain.specs.declared.stack.Stack.{Stack}
use Rattle.front_stack_domain.specs.declared.reading.Walk.{Walk}
use Rattle.front_stack_loops.specs.declared.table.PassNode.{PassNode}
use Rattle.front_stack_loops.specs.declared.table.Parts.TheVariants as parts
use Rattle.front_stack_loops.specs.declared.table.Table.{Table}
use Rattle.front_stack_loops.specs.declared.memory.Memory.{Memory}
use Rattle.front_stack_loops.specs.declared.visits.Pending.{Pending}
use Rattle.base_language.specs.declared.runtime.places.Span as code_span

-- a stack is added to others
pub record AddsStack (old new : List Stack) (a : AbstractStack) : Type 0 where
  pub kept : (b : AbstractStack) → In b (seen_stacks old) → In b (seen_stacks new)
  pub added : In a (seen_stacks new)
  pub others : (b : AbstractStack) → In b (seen_stacks new) → In b (seen_stacks old) ⊎ (b ≡ a)

-- the stacks of walks are added
pub record AddsAll (old new : List Stack) (trace : List Walk) : Type 0 where
  pub kept : (b : AbstractStack) → In b (seen_stacks old) → In b (seen_stacks new)
  pub added : (j : ℕ) (w : Walk) (b : AbstractStack) → slice_get trace j ≡ Some w → possible w.here
      ≡ Some b → In b (seen_stacks new)
  pub others : (b : AbstractStack) → In b (seen_stacks new) → In b (seen_stacks old) ⊎ ((j : ℕ)
      × (w : Walk) × (slice_get trace j ≡ Some w) × (possible w.here ≡ Some b))

-- stacks are added
pub record AddsEach (old new more : List Stack) : Type 0 where
  pub kept : (b : AbstractStack) → In b (seen_stacks old) → In b (seen_stacks new)
  pub added : (b : AbstractStack) → In b (seen_stacks more) → In b (seen_stacks new)
  pub others : (b : AbstractStack) → In b (seen_stacks new) → In b (seen_stacks old)
      ⊎ In b (seen_stacks more)

-- the stacks that satisfy P are added
pub record AddsWhere (t : Table) (old new : Memory) (P : Meaning → AbstractStack → Type 0)
    (before after : List Stack) : Type 0 where
  pub kept : (meaning : Meaning) → IsMeaning t meaning → IsRight meaning old → IsRight meaning new
  pub front : (b : AbstractStack) → In b (seen_stacks before) → In b (seen_stacks after)
  pub sound : (meaning : Meaning) → IsMeaning t meaning → IsRight meaning old → (b : AbstractStack)
      → In b (seen_stacks after) → In b (seen_stacks before) ⊎ P meaning b
  pub complete : (meaning : Meaning) → IsMeaning t meaning → IsRight meaning old → (b : AbstractStack)
      → P meaning b → In b (seen_stacks after)

-- these are the stacks that come from some of others
pub record Collects (t : Table) (old new : Memory) (P : Meaning → AbstractStack → AbstractStack → Type 0)
    (ss found : List Stack) : Type 0 where
  pub kept : (meaning : Meaning) → IsMeaning t meaning → IsRight meaning old → IsRight meaning new
  pub sound : (meaning : Meaning) → IsMeaning t meaning → IsRight meaning old → (b : AbstractStack)
      → In b (seen_stacks found) → (a : AbstractStack) × In a (seen_stacks ss) × P meaning a b
  pub complete : (meaning : Meaning) → IsMeaning t meaning → IsRight meaning old → (a b : AbstractStack)
      → In a (seen_stacks ss) → P meaning a b → In b (seen_stacks found)

abbrev pub IsAfter : (AbstractStack → says.Reading) → Bool → AbstractStack → AbstractStack → Type 0
IsAfter step choice a b = next_after choice (step a) a ≡ Some b

abbrev pub IsStartOf : ℕ → (AbstractStack → says.Reading) → List Copy → AbstractStack → AbstractStack
    → Type 0
IsStartOf limit step cs a b = In b (starts limit step cs (Some a))

-- whether the loop search finds one from some of the stacks
pub record FindsLoop (t : Table) (old new : Memory) (body : ℕ) (ss : List Stack) (found : Bool) : Type 0 where
  pub kept : (meaning : Meaning) → IsMeaning t meaning → IsRight meaning old → IsRight meaning new
  pub yes : (meaning : Meaning) → IsMeaning t meaning → IsRight meaning old → found ≡ true
      → (a : AbstractStack) × In a (seen_stacks ss) × (loops t.turns (meaning body) a ≡ true)
  pub no : (meaning : Meaning) → IsMeaning t meaning → IsRight meaning old → found ≡ false
      → (a : AbstractStack) → In a (seen_stacks ss) → loops t.turns (meaning body) a ≡ true → ⊥

abbrev pub SomeLoops : Table → Meaning → ℕ → List Stack → Type 0
SomeLoops t meaning body ss = (a : AbstractStack) × In a (seen_stacks ss)
    × (loops t.turns (meaning body) a ≡ true)

-- a repetition was reported, or not
pub record IsReportedWhereItLoops (t : Table) (old new : Memory) (node body : ℕ) (endless : Bool)
    (ss : List Stack) (before after : List code_span.Span) : Type 0 where
  pub kept : (meaning : Meaning) → IsMeaning t meaning → IsRight meaning old → IsRight meaning new
  pub value : (meaning : Meaning) → IsMeaning t meaning → IsRight meaning old → (n : PassNode)
      → slice_get (nodes_of t) node ≡ Some n
      → ((endless ≡ true) × (is_set_at t.nullable.items body ≡ false) × SomeLoops t meaning body ss
      × (after ≡ before ++ n.span.now ∷ []))
      ⊎ ((endless ≡ true → is_set_at t.nullable.items body ≡ false → SomeLoops t meaning body ss → ⊥)
      × (after ≡ before))

module _ (t : Table) (meaning : Meaning) (read : Spanned → AbstractStack → says.Reading)
    (nullable : Spanned → Bool) where
  -- a node of the table does what a node of an expression does
  pub record DoesTheSame (j : ℕ) (x : Spanned) : Type 0 where
    pub reads : meaning j ≡ read x
    pub null : is_set_at t.nullable.items j ≡ nullable x

  -- a node of the table represents a node of an expression, with all nodes inside
  abbrev pub Represents : ℕ → Spanned → Type 0
  Represents i (Leaf s e) = (n : PassNode) × (slice_get (nodes_of t) i ≡ Some n) × (parts_of n.kind
      ≡ parts.Nothing)
  Represents i (One s f x) = (n : PassNode) × (j : ℕ) × (r : ℕ) × (o : ℕ)
      × (slice_get (nodes_of t) i ≡ Some n)
      × (parts_of n.kind ≡ parts.Inside j r o (is_endless f))
      × (copies r o (is_endless f) ≡ copies_of f) × (piece_of n.span.now ≡ s)
      × DoesTheSame j x × Represents j x
  Represents i (Two s f x y) = (n : PassNode) × (j : ℕ) × (k : ℕ) × (slice_get (nodes_of t) i ≡ Some n)
      × (parts_of n.kind ≡ parts.Both j k (is_choice f))
      × DoesTheSame j x × Represents j x × Represents k y

  -- nodes of the table represent these nodes of expressions
  abbrev pub RootsRepresent : List ℕ → List Spanned → Type 0
  RootsRepresent [] [] = ⊤
  RootsRepresent (i ∷ is) (x ∷ xs) = Represents i x × RootsRepresent is xs
  RootsRepresent [] (x ∷ xs) = ⊥
  RootsRepresent (i ∷ is) [] = ⊥

-- the memoized readings stay right
abbrev pub Keeps : Table → Memory → Memory → Type 0
Keeps t old new = (meaning : Meaning) → IsMeaning t meaning → IsRight meaning old → IsRight meaning new

-- the reports in a node that is visited from some stacks follow those that were there
pub record FindsIn (t : Table) (old new : Memory) (node : ℕ) (ss : List Stack)
    (before after : List code_span.Span) : Type 0 where
  pub kept : (meaning : Meaning) → IsMeaning t meaning → IsRight meaning old → IsRight meaning new
  pub value : (meaning : Meaning) → IsMeaning t meaning → IsRight meaning old
      → (read : Spanned → AbstractStack → says.Reading) (nullable : Spanned → Bool) (x : Spanned)
      → Represents t meaning read nullable node x
      → (ts : List Span) × ReportedIn t.limit t.turns read nullable (λ a. In a (seen_stacks ss)) x ts
      × (map piece_of after ≡ map piece_of before ++ ts)

-- these are the reports in several bodies, one body after another
abbrev pub AllReported : (Spanned → List Span → Type 0) → List Spanned → List Span → Type 0
AllReported R [] us = us ≡ []
AllReported R (x ∷ xs) us =
    (ts : List Span) × (vs : List Span) × R x ts × AllReported R xs vs × (us ≡ ts ++ vs)

-- the reports in the bodies at some nodes, each of which is read from a rule's start
pub record FindsAll (t : Table) (is : List ℕ) (found : List code_span.Span) : Type 0 where
  pub value : (meaning : Meaning) → IsMeaning t meaning
      → (read : Spanned → AbstractStack → says.Reading) (nullable : Spanned → Bool) (xs : List Spanned)
      → RootsRepresent t meaning read nullable is xs
      → AllReported (ReportedIn t.limit t.turns read nullable (λ a. a ≡ entry)) xs (map piece_of found)

module _ (t : Table) (meaning : Meaning) (read : Spanned → AbstractStack → says.Reading)
    (nullable : Spanned → Bool) where
  -- nodes that are still to be visited, the next one last, represent these nodes of expressions
  abbrev pub PendingRepresent : List Pending → List Spanned → Type 0
  PendingRepresent [] [] = ⊤
  PendingRepresent (v ∷ vs) (x ∷ xs) = Represents t meaning read nullable v.node x × PendingRepresent vs xs
  PendingRepresent [] (x ∷ xs) = ⊥
  PendingRepresent (v ∷ vs) [] = ⊥

  -- these are the reports in them, those in the next one first
  abbrev pub ReportedLeft : List Pending → List Spanned → List Span → Type 0
  ReportedLeft [] [] us = us ≡ []
  ReportedLeft (v ∷ vs) (x ∷ xs) us = (ts : List Span) × (rest : List Span)
      × ReportedIn t.limit t.turns read nullable (λ a. In a (seen_stacks v.stacks.items)) x ts
      × ReportedLeft vs xs rest × (us ≡ rest ++ ts)
  ReportedLeft [] (x ∷ xs) us = ⊥
  ReportedLeft (v ∷ vs) [] us = ⊥

abbrev pub effort_left : Table → List Pending → ℕ
effort_left t [] = 0
effort_left t (v ∷ vs) = effort_of t v.node + effort_left t vs

abbrev pub AreLeftLow : Table → ℕ → List Pending → Type 0
AreLeftLow t l [] = ⊤
AreLeftLow t l (v ∷ vs) = IsLow t l v.node × AreLeftLow t l vs

-- nodes were visited: the reports in what is left now follow those that were found, and with these they are
-- the reports in what was left before
pub record VisitsNodes (t : Table) (old new : Memory) (ws : List Pending) (before : List code_span.Span)
    (vs : List Pending) (after : List code_span.Span) : Type 0 where
  pub kept : (meaning : Meaning) → IsMeaning t meaning → IsRight meaning old → IsRight meaning new
  pub value : (meaning : Meaning) → IsMeaning t meaning → IsRight meaning old
      → (read : Spanned → AbstractStack → says.Reading) (nullable : Spanned → Bool) (xs : List Spanned)
      → PendingRepresent t meaning read nullable ws xs
      → (ys : List Spanned) × PendingRepresent t meaning read nullable vs ys
      × ((us : List Span) → ReportedLeft t meaning read nullable vs ys us
      → (ts : List Span) × ReportedLeft t meaning read nullable ws xs ts
      × (map piece_of before ++ ts ≡ map piece_of after ++ us))

-- one of them was
pub record VisitsOn (t : Table) (old new : Memory) (ws : List Pending) (before : List code_span.Span)
    (vs : List Pending) (after : List code_span.Span) : Type 0 where
  pub visits : VisitsNodes t old new ws before vs after
  pub less : effort_left t vs < effort_left t ws
  pub low : (l : ℕ) → AreLeftLow t l ws → AreLeftLow t l vs
