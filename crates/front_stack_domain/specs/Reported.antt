-- The reports in a body, by the direct reading, node by node.
use Rattle.std.specs.Prelude.{◌≡◌, ℕ, zero, suc, List, [], ◌∷◌, ◌++◌, replicate, length, Option, Some, None, Bool, true, false, if◌then◌else◌, ◌⊎◌}
use Rattle.base_language.specs.Language.Text.{Text}
use Rattle.base_language.specs.Language.Expression.{Grammar}
use Rattle.base_language.specs.Language.WellFormed.{IsNullable}
use Rattle.front_spanned.specs.Erasure.{without_spans}
use Rattle.front_spanned.specs.Spanned.{span_of, Span, Spanned, Leaf, One, Two, Unary, PosPred, NegPred, Opt, Rep, RepOnce, RepExact, RepMin, RepMax, RepMinMax, Push, Tag, Binary, Seq, Choice}
use Rattle.front_stack_domain.specs.Stack.{AbstractStack, In, entry, is_among}
use Rattle.front_stack_domain.specs.Reading as says
use Rattle.front_stack_domain.specs.Reading.{loops, tried, Copy, Required, Optional, Endless, at_least_copies, from_to_copies}
use Rattle.front_stack_domain.specs.Reports.{Route, Here, First, Second, Inner, Turn, reading_to_depth, IsReport, IsCertain, NeverEnds}
use Rattle.front_stack_domain.specs.Walks.{next_after}

-- the operand is visited as the copies of a repetition are; once if the operator is no repetition
abbrev pub copies_of : Unary → List Copy
copies_of PosPred = Required ∷ []
copies_of NegPred = Required ∷ []
copies_of Opt = Required ∷ []
copies_of Push = Required ∷ []
copies_of (Tag t) = Required ∷ []
copies_of Rep = Endless ∷ []
copies_of RepOnce = Required ∷ Endless ∷ []
copies_of (RepExact n) = replicate n Required
copies_of (RepMin n) = at_least_copies n
copies_of (RepMax n) = replicate n Optional
copies_of (RepMinMax m n) = from_to_copies m n

-- the operator is a repetition without a greatest number
abbrev pub is_endless : Unary → Bool
is_endless Rep = true
is_endless RepOnce = true
is_endless (RepMin n) = true
is_endless _ = false

abbrev pub is_choice : Binary → Bool
is_choice Seq = false
is_choice Choice = true

-- the starts of turns, until one comes again or there is no ok
unfoldable pub turn_starts : (AbstractStack → says.Reading) → ℕ → List AbstractStack → Option AbstractStack
    → List AbstractStack
turn_starts step zero seen q = []
turn_starts step (suc k) seen None = []
turn_starts step (suc k) seen (Some a) =
    if is_among seen a then [] else a ∷ turn_starts step k (a ∷ seen) (step a).ok

module _ (limit : ℕ) (step : AbstractStack → says.Reading) where
  -- the stacks from which copies start
  abbrev pub starts : List Copy → Option AbstractStack → List AbstractStack
  starts [] q = []
  starts (c ∷ cs) None = []
  starts (Required ∷ cs) (Some a) = a ∷ starts cs (step a).ok
  starts (Optional ∷ cs) (Some a) = a ∷ starts cs (tried a (step a))
  starts (Endless ∷ cs) (Some a) = turn_starts step limit [] (Some a)

-- `S a`: a node is visited from a; `read x`: the reading of a node
module _ (limit turns : ℕ) (read : Spanned → AbstractStack → says.Reading) (nullable : Spanned → Bool) where
  -- the loop search finds a loop from one of the stacks
  abbrev pub SomeLoop : (AbstractStack → Type 0) → Spanned → Type 0
  SomeLoop S x = (a : AbstractStack) × S a × (loops turns (read x) a ≡ true)

  -- the node itself is reported, or not, before its operand
  abbrev pub Own : (AbstractStack → Type 0) → Span → Unary → Spanned → List Span → List Span → Type 0
  Own S t f x inside ts =
      ((is_endless f ≡ true) × (nullable x ≡ false) × SomeLoop S x × (ts ≡ t ∷ inside))
      ⊎ ((is_endless f ≡ true → nullable x ≡ false → SomeLoop S x → ⊥) × (ts ≡ inside))

  -- the stacks from which an operand is visited, and those from which the second of two is
  abbrev pub Inside : (AbstractStack → Type 0) → Unary → Spanned → AbstractStack → Type 0
  Inside S f x b = (a : AbstractStack) × S a × In b (starts limit (read x) (copies_of f) (Some a))

  abbrev pub AfterFirst : (AbstractStack → Type 0) → Binary → Spanned → AbstractStack → Type 0
  AfterFirst S f x b = (a : AbstractStack) × S a × (next_after (is_choice f) (read x a) a ≡ Some b)

  -- the reports in a node that is visited from these stacks, one for a repetition, an outer one before
  -- those inside
  abbrev pub ReportedIn : (AbstractStack → Type 0) → Spanned → List Span → Type 0
  ReportedIn S (Leaf t e) ts = ts ≡ []
  ReportedIn S (One t f x) ts = (inside : List Span)
      × ReportedIn (Inside S f x) x inside
      × Own S t f x inside ts
  ReportedIn S (Two t f x y) ts = (first : List Span) × (second : List Span)
      × ReportedIn S x first
      × ReportedIn (AfterFirst S f x) y second
      × (ts ≡ first ++ second)

-- the node at a route
abbrev pub node_at : Spanned → Route → Option Spanned
node_at x Here = Some x
node_at (One t f x) (Inner r) = node_at x r
node_at (One t f x) (Turn i r) = node_at x r
node_at (Two t f x y) (First r) = node_at x r
node_at (Two t f x y) (Second r) = node_at y r
node_at _ _ = None

-- a node that is not taken for nullable is not
abbrev pub KnowsNullable : Grammar → (Spanned → Bool) → Type 0
KnowsNullable g nullable = (x : Spanned) → nullable x ≡ false → IsNullable g (without_spans x) → ⊥

-- the reports in the body x of a rule, with calls followed to a depth
abbrev pub ReportedToDepth :
    ℕ → ℕ → ℕ → (Text → Bool) → Grammar → (Spanned → Bool) → Spanned → List Span → Type 0
ReportedToDepth depth limit turns recursive g nullable x ts =
    ReportedIn limit turns (λ y. reading_to_depth depth limit recursive g (without_spans y)) nullable
    (λ a. a ≡ entry) x ts

-- the reports in the body x of a rule, with calls followed as deep as there are rules
abbrev pub ReportedFrom : ℕ → ℕ → (Text → Bool) → Grammar → (Spanned → Bool) → Spanned → List Span → Type 0
ReportedFrom limit turns recursive g nullable x ts =
    ReportedToDepth (length g) limit turns recursive g nullable x ts

-- the span t of a rule's body is that of a repetition that is reported on a route, and that certainly has
-- no outcome where it is reached on that route; so a start that reaches it there has none
pub record IsCertainAt (limit turns : ℕ) (recursive : Text → Bool) (g : Grammar) (x : Spanned) (t : Span)
    : Type 0 where
  pub route : Route
  pub stack : AbstractStack
  pub node : Spanned
  pub at : node_at x route ≡ Some node
  pub place : span_of node ≡ t
  pub reported : IsReport limit turns recursive g (without_spans x) (without_spans node) route stack
  pub certain : IsCertain g (without_spans x) (without_spans node) route stack
  pub never_ends : NeverEnds g (without_spans x) route
