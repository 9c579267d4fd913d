-- The findings of the validator: repetitions that never end, alternatives that are never reached, skipped
-- rules that may take nothing, left recursion, and tags on pieces that give no token.
use Rattle.std.specs.Prelude.{◌≡◌, ℕ, ◌+◌, Some, None, slice_get, filter, not, ◌&&◌, IsPermutation, List, [], ◌∷◌, ◌++◌, map, Bool, true, false, ◌||◌, bytes_eq, length}
use Rattle.std.specs.List.{range_with_len}
use Rattle.std.specs.Ordering.{is_lt, ordering_then, nat_cmp}
use Rattle.std.specs.Str.{encode_utf8_all}
use Rattle.base_language.specs.Pieces.Saying.{Complaint}
use Rattle.base_language.specs.Language.Text.{Text}
use Rattle.base_language.specs.Language.Expression.{Expression, Grammar, whitespace, comment}
use Rattle.base_language.specs.Language.WellFormed.{IsNullable, CannotFail, Leads}
use Rattle.front_names.specs.Messages.{cannot_fail, non_progressing, repeated_expression, unreachable_choices}
use Rattle.front_spanned.specs.Erasure.{without_spans, rules_without_spans}
use Rattle.front_spanned.specs.Spanned.{Span, span_of, Spanned, One, Two, Unary, Rep, RepOnce, RepMin, Choice, SpannedRule}
use Rattle.front_analysis.specs.Nodes.{every_node}
use Rattle.front_validator.specs.LeftRecursion.{Closed, Means, Walks, trail_message}
use Rattle.front_validator.specs.Tags.{of_tags}

-- a finding: a message about a piece of the text
abbrev pub Finding : Type 0
Finding = Complaint

abbrev pub found_at : Span → List ℕ → Finding
found_at place message = record { message = message; span = place }

-- `*`, `+` and `{n,}`
abbrev pub is_endless : Unary → Bool
is_endless Rep = true
is_endless RepOnce = true
is_endless (RepMin n) = true
is_endless _ = false

abbrev pub is_repetition : Spanned → Bool
is_repetition (One s f x) = is_endless f
is_repetition _ = false

abbrev pub is_choice : Spanned → Bool
is_choice (Two s Choice x y) = true
is_choice _ = false

-- the last alternative of the left side of a choice, of which the validator reports
abbrev pub last_alternative : Spanned → Spanned
last_alternative (Two s Choice x y) = y
last_alternative x = x

abbrev pub is_skipped_name : Text → Bool
is_skipped_name n = bytes_eq n whitespace || bytes_eq n comment

-- the findings at all of these, one after another
pub data Reports {X : Type 0} (R : X → List Finding → Type 0) : List X → List Finding → Type 0 where
  reports_none : Reports R [] []
  reports_at : {x : X} {xs : List X} {fs gs : List Finding} → R x fs → Reports R xs gs
      → Reports R (x ∷ xs) (fs ++ gs)

module _ (g : Grammar) where
  -- the findings of an expression that is repeated without end
  pub data OfRepeated (subject : List ℕ) (place : Span) (e : Expression) : List Finding → Type 0 where
    never_fails : CannotFail g e
        → OfRepeated subject place e (found_at place (cannot_fail subject) ∷ [])
    takes_nothing : (CannotFail g e → ⊥) → IsNullable g e
        → OfRepeated subject place e (found_at place (non_progressing subject) ∷ [])
    goes_on : (IsNullable g e → ⊥) → OfRepeated subject place e []

  -- the findings of a node as a repetition
  pub data OfRepetition : Spanned → List Finding → Type 0 where
    repetition : {s : Span} {f : Unary} {x : Spanned} {fs : List Finding} → is_endless f ≡ true
        → OfRepeated repeated_expression s (without_spans x) fs
        → OfRepetition (One s f x) fs
    no_repetition : {x : Spanned} → is_repetition x ≡ false → OfRepetition x []

  -- the findings of a node as a choice
  pub data OfChoice : Spanned → List Finding → Type 0 where
    unreachable : {s : Span} {x y : Spanned} → CannotFail g (without_spans (last_alternative x))
        → OfChoice (Two s Choice x y)
        (found_at (span_of (last_alternative x)) unreachable_choices ∷ [])
    reachable : {s : Span} {x y : Spanned} → (CannotFail g (without_spans (last_alternative x)) → ⊥)
        → OfChoice (Two s Choice x y) []
    no_choice : {x : Spanned} → is_choice x ≡ false → OfChoice x []

  -- the findings of a rule as one that is skipped
  pub data OfSkipped : SpannedRule → List Finding → Type 0 where
    skipped : {r : SpannedRule} {fs : List Finding} → is_skipped_name r.name ≡ true
        → OfRepeated (encode_utf8_all r.name) (span_of r.body) (without_spans r.body) fs → OfSkipped r fs
    not_skipped : {r : SpannedRule} → is_skipped_name r.name ≡ false → OfSkipped r []

module _ (rules : List SpannedRule) where
  -- the findings of the rule at an index as left-recursive, if the rule is the last of its name: the
  -- first call of the rule to which the walk over its body comes
  pub data OfRecursion : ℕ → List Finding → Type 0 where
    recursive : {k : ℕ} {r : SpannedRule} {closed : Closed} → slice_get rules k ≡ Some r
        → Means rules r.name k → Walks rules k (k ∷ []) r.name r.body (Some closed)
        → OfRecursion k (found_at closed.call (trail_message rules r closed) ∷ [])
    not_recursive : {k : ℕ} {r : SpannedRule} → slice_get rules k ≡ Some r
        → Means rules r.name k → Walks rules k (k ∷ []) r.name r.body None → OfRecursion k []
    hidden : {k : ℕ} {r : SpannedRule} → slice_get rules k ≡ Some r
        → (Means rules r.name k → ⊥) → OfRecursion k []

-- the indices of the rules, in the order of the text
abbrev pub places : List SpannedRule → List ℕ
places rules = range_with_len 0 (length rules)

-- the first finding comes before the second: its start is before, or the starts are equal and its end is
-- before
abbrev pub is_before : Finding → Finding → Bool
is_before x y = is_lt (ordering_then (nat_cmp x.span.start y.span.start) (nat_cmp x.span.end y.span.end))

-- two findings start and end alike
abbrev pub is_level : Finding → Finding → Bool
is_level x y = not (is_before x y) && not (is_before y x)

-- the findings sorted by their spans; the order of findings at one span is kept
pub record IsSortedBySpan (found sorted : List Finding) : Type 0 where
  pub same : IsPermutation found sorted
  pub rising : (i : ℕ) (x y : Finding) → slice_get sorted i ≡ Some x → slice_get sorted (i + 1) ≡ Some y
      → is_before y x ≡ false
  pub stable : (i : ℕ) (x : Finding) → slice_get found i ≡ Some x
      → filter (is_level x) sorted ≡ filter (is_level x) found

-- the finding of a repetition that never ends for another reason than that its body may take nothing
abbrev pub endless_at : Span → Finding
endless_at place = found_at place (non_progressing repeated_expression)

-- all findings in rules: repetitions, then those that are known to be endless, then choices, then skipped
-- rules, then left recursion, of which there is a finding exactly where left calls have a cycle; then
-- tags
pub record AreFound (rules : List SpannedRule) (endless : List Span) (found : List Finding) : Type 0 where
  pub repetitions : List Finding
  pub choices : List Finding
  pub skips : List Finding
  pub recursions : List Finding
  pub of_repetitions : Reports (OfRepetition (rules_without_spans rules)) (every_node rules) repetitions
  pub of_choices : Reports (OfChoice (rules_without_spans rules)) (every_node rules) choices
  pub of_skips : Reports (OfSkipped (rules_without_spans rules)) rules skips
  pub of_recursions : Reports (OfRecursion rules) (places rules) recursions
  pub of_cycles : recursions ≡ [] → (n : Text) → Leads (rules_without_spans rules) n n → ⊥
  pub only_of_cycles : (recursions ≡ [] → ⊥) → (n : Text) × Leads (rules_without_spans rules) n n
  pub all : found
      ≡ repetitions ++ (map endless_at endless ++ (choices ++ (skips ++ (recursions ++ of_tags rules))))

-- these are all findings in rules, sorted by span
abbrev pub AreAllFound : List SpannedRule → List Span → List Finding → Type 0
AreAllFound rules endless sorted =
    (found : List Finding) × AreFound rules endless found × IsSortedBySpan found sorted
