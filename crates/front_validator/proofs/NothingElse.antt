-- Where nothing is found in rules, nothing else is found in them.
use Rattle.std.proofs.Common.{◌≡◌, ℕ, suc, List, [], ◌∷◌, ◌++◌, map, Some, slice_get, refl, sym, ◌∙◌, ap, subst}
use Rattle.base_language.specs.Language.Expression.{Expression, Grammar}
use Rattle.base_language.specs.Language.WellFormed.{IsNullable, CannotFail}
use Rattle.base_language.specs.declared.grammar.Rule.{Rule}
use Rattle.base_language.specs.declared.runtime.errors.Error.{Error}
use Rattle.base_language.proofs.CannotFailIsNullable.{nullable_of}
use Rattle.base_language.proofs.Basics.{clash}
use Rattle.front_spanned.specs.Erasure.{without_spans, rules_without_spans}
use Rattle.front_spanned.specs.Spanned.{Span, Spanned, Two, Choice, SpannedRule}
use Rattle.front_validator.specs.Findings.{Finding, AreFound, endless_at, Reports, reports_none, reports_at, OfRepeated, never_fails, takes_nothing, goes_on, OfRepetition, repetition, no_repetition, OfChoice, unreachable, reachable, no_choice, OfSkipped, skipped, not_skipped, is_choice, last_alternative}
use Rattle.front_validator.specs.Reported.{AreReported}
use Rattle.front_validator.specs.Tags.{of_tags}
use Rattle.front_validator.proofs.EmptyLemmas.{empty_first, empty_second, reports_empty, none_repetition, none_skipped}
use Rattle.front_validator.proofs.SortedLemmas.{told_empty, nothing_told, none_found, none_sorted}

both_empty : {A : Type 0} (xs ys : List A) → xs ≡ [] → ys ≡ [] → xs ++ ys ≡ []
both_empty [] ys h k = k
both_empty (x ∷ xs) ys h k = cc

-- where nothing is found of each, nothing is found of all
module _ {X : Type 0} (R : X → List Finding → Type 0) (once : (x : X) (fs : List Finding) → R x [] → R x fs → fs ≡ []) where
  each_empty : {xs : List X} {fs : List Finding} → Reports R xs fs → ((i : ℕ) (x : X) → slice_get xs i ≡ Some x → R x []) → fs ≡ []
  each_empty reports_none f = refl
  each_empty (reports_at {x = x} {fs = fs} {gs = gs} h t) f = both_empty fs gs (once x fs (f 0 x refl) h) (each_empty t (λ i y e. f (suc i) y e))

  reports_once : {xs : List X} {fs gs : List Finding} → Reports R xs fs → fs ≡ [] → Reports R xs gs → gs ≡ []
  reports_once a e b = each_empty b (reports_empty R a e)

module _ (g : Grammar) where
  repeated_once : {subject : List ℕ} {place : Span} {e : Expression} {fs : List Finding} → (IsNullable g e → ⊥) → OfRepeated g subject place e fs → fs ≡ []
  repeated_once f (never_fails d) = absurd (f (nullable_of g d))
  repeated_once f (takes_nothing d m) = absurd (f m)
  repeated_once f (goes_on h) = refl

  repetition_once : (x : Spanned) (fs : List Finding) → OfRepetition g x [] → OfRepetition g x fs → fs ≡ []
  repetition_once x fs a (repetition {s = s} {f = f} {x = y} h d) = repeated_once (none_repetition g a refl s f y refl h) d
  repetition_once x fs a (no_repetition h) = refl

  none_unreachable : {x : Spanned} {fs : List Finding} → OfChoice g x fs → fs ≡ [] → (s : Span) (y z : Spanned) → x ≡ Two s Choice y z → CannotFail g (without_spans (last_alternative y)) → ⊥
  none_unreachable (unreachable d) e s y z m c = cc
  none_unreachable (reachable {x = a} f) e s y z m c = let same : y ≡ a = cc in f (subst (λ w. CannotFail g (without_spans (last_alternative w))) same c)
  none_unreachable (no_choice h) e s y z m c = clash (is_choice (Two s Choice y z)) refl (ap is_choice (sym m) ∙ h)

  choice_once : (x : Spanned) (fs : List Finding) → OfChoice g x [] → OfChoice g x fs → fs ≡ []
  choice_once x fs a (unreachable {s = s} {x = y} {y = z} c) = absurd (none_unreachable a refl s y z refl c)
  choice_once x fs a (reachable f) = refl
  choice_once x fs a (no_choice h) = refl

  skipped_once : (r : SpannedRule) (fs : List Finding) → OfSkipped g r [] → OfSkipped g r fs → fs ≡ []
  skipped_once r fs a (skipped h d) = repeated_once (none_skipped g a refl h) d
  skipped_once r fs a (not_skipped h) = refl

-- a list that is not without elements is empty
stable : (ks : List Finding) → ((ks ≡ [] → ⊥) → ⊥) → ks ≡ []
stable [] f = refl
stable (k ∷ ks) f = absurd (f (λ e. cc))

found_once : (rules : List SpannedRule) (endless : List Span) (found others : List Finding) → AreFound rules endless found → found ≡ [] → AreFound rules [] others → others ≡ []
found_once rules endless found others a e b =
    let known = map endless_at endless in
    let tags = of_tags rules in
    let last = a.recursions ++ tags in
    let whole = sym a.all ∙ e in
    let w = empty_second a.repetitions (known ++ (a.choices ++ (a.skips ++ last))) whole in
    let u = empty_second known (a.choices ++ (a.skips ++ last)) w in
    let v = empty_second a.choices (a.skips ++ last) u in
    let t = empty_second a.skips last v in
    let G = rules_without_spans rules in
    let reps = reports_once (OfRepetition G) (repetition_once G) a.of_repetitions (empty_first a.repetitions (known ++ (a.choices ++ (a.skips ++ last))) whole) b.of_repetitions in
    let choices = reports_once (OfChoice G) (choice_once G) a.of_choices (empty_first a.choices (a.skips ++ last) u) b.of_choices in
    let skips = reports_once (OfSkipped G) (skipped_once G) a.of_skips (empty_first a.skips last v) b.of_skips in
    let ends = a.of_cycles (empty_first a.recursions tags t) in
    let recursions = stable b.recursions (λ f. let (n, l) = b.only_of_cycles f in ends n l) in
    let others_last = both_empty b.recursions tags recursions (empty_second a.recursions tags t) in
    b.all ∙ both_empty b.repetitions (b.choices ++ (b.skips ++ (b.recursions ++ tags))) reps
    (both_empty b.choices (b.skips ++ (b.recursions ++ tags)) choices (both_empty b.skips (b.recursions ++ tags) skips others_last))

-- rules in which nothing is found are not refused for something that is, unless it is known of elsewhere
pub nothing_else : (rules : List SpannedRule) (endless : List Span) (errors : List (Error Rule)) → AreReported rules endless [] → AreReported rules [] errors → errors ≡ []
nothing_else rules endless errors a b =
    let none = none_found a.complete.0 a.findings a.complete.2 (told_empty a.findings [] a.told refl) in
    let others = found_once rules endless a.complete.0 b.complete.0 a.complete.1 none b.complete.1 in
    nothing_told b.findings errors b.told (none_sorted b.complete.0 b.findings b.complete.2 others)

-- where no error is told, no repetition is known to be endless
pub none_endless : (rules : List SpannedRule) (endless : List Span) → AreReported rules endless [] → endless ≡ []
none_endless rules endless a =
    let none = none_found a.complete.0 a.findings a.complete.2 (told_empty a.findings [] a.told refl) in
    let f = a.complete.1 in
    let rest = f.choices ++ (f.skips ++ (f.recursions ++ of_tags rules)) in
    let others = empty_second f.repetitions (map endless_at endless ++ rest) (sym f.all ∙ none) in
    none_mapped endless (empty_first (map endless_at endless) rest others)
  where
    none_mapped : (spans : List Span) → map endless_at spans ≡ [] → spans ≡ []
    none_mapped [] h = refl
    none_mapped (s ∷ spans) h = cc
