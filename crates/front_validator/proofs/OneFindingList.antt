-- Of rules one list of findings is told.
use Rattle.std.proofs.Common.{◌≡◌, ℕ, List, [], ◌∷◌, ◌++◌, map, true, refl, sym, ◌∙◌, ap, subst, get_or}
use Rattle.std.specs.Cmp.{IsStrictWeakOrder}
use Rattle.std.specs.List.{All}
use Rattle.std.proofs.lemmas.Cmp.{nat_cmp_total, on_total, then_total}
use Rattle.std.proofs.lemmas.List.Sorted.{All-permutation, ranks_by}
use Rattle.std.proofs.lemmas.Option.{slice_get-get_or}
use Rattle.base_language.specs.Language.Expression.{Expression, Grammar}
use Rattle.base_language.specs.Pieces.PrintedError.{message_of}
use Rattle.base_language.specs.Pieces.Saying.{Complaint, HasMessage, IsErrorAt, AreErrorsFor}
use Rattle.base_language.specs.declared.grammar.Rule.{Rule}
use Rattle.base_language.specs.declared.runtime.errors.Error.{Error}
use Rattle.base_language.specs.declared.runtime.errors.ErrorVariant.{ErrorVariant}
use Rattle.base_language.specs.declared.runtime.errors.ErrorVariant.TheVariants.{ParsingError, CustomError}
use Rattle.base_language.proofs.CannotFailIsNullable.{nullable_of}
use Rattle.base_language.proofs.Basics.{clash}
use Rattle.front_spanned.specs.Erasure.{rules_without_spans}
use Rattle.front_spanned.specs.Spanned.{Span, Spanned, SpannedRule}
use Rattle.front_validator.specs.Alike.{AreAlike, IsAlike}
use Rattle.front_validator.specs.Tags.{of_tags}
use Rattle.front_validator.specs.Findings.{Finding, AreFound, endless_at, is_before, IsSortedBySpan, places, Reports, reports_none, reports_at, OfRepeated, never_fails, takes_nothing, goes_on, OfRepetition, repetition, no_repetition, OfChoice, unreachable, reachable, no_choice, OfSkipped, skipped, not_skipped, is_endless, is_skipped_name}
use Rattle.front_validator.specs.Reported.{AreReported}
use Rattle.front_validator.proofs.OneOrder.{AgreeAt, one_order, rises}
use Rattle.front_validator.proofs.OneRecursionList.{one_list}

-- 1. of each thing one list is found
module _ (g : Grammar) where
  one_repeated : {subject : List ℕ} {place : Span} {e : Expression} {fs gs : List Finding} → OfRepeated g subject place e fs → OfRepeated g subject place e gs → fs ≡ gs
  one_repeated (never_fails c) (never_fails d) = refl
  one_repeated (never_fails c) (takes_nothing f n) = absurd (f c)
  one_repeated (never_fails c) (goes_on f) = absurd (f (nullable_of g c))
  one_repeated (takes_nothing f n) (never_fails c) = absurd (f c)
  one_repeated (takes_nothing f n) (takes_nothing h m) = refl
  one_repeated (takes_nothing f n) (goes_on h) = absurd (h n)
  one_repeated (goes_on f) (never_fails c) = absurd (f (nullable_of g c))
  one_repeated (goes_on f) (takes_nothing h n) = absurd (f n)
  one_repeated (goes_on f) (goes_on h) = refl

  one_repetition : {x : Spanned} {fs gs : List Finding} → OfRepetition g x fs → OfRepetition g x gs → fs ≡ gs
  one_repetition (repetition h d) (repetition k e) = one_repeated d e
  one_repetition (repetition {f = f} h d) (no_repetition k) = absurd (clash (is_endless f) h k)
  one_repetition (no_repetition k) (repetition {f = f} h d) = absurd (clash (is_endless f) h k)
  one_repetition (no_repetition h) (no_repetition k) = refl

  one_choice : {x : Spanned} {fs gs : List Finding} → OfChoice g x fs → OfChoice g x gs → fs ≡ gs
  one_choice (unreachable c) (unreachable d) = refl
  one_choice (unreachable c) (reachable f) = absurd (f c)
  one_choice (unreachable c) (no_choice h) = absurd (clash true refl h)
  one_choice (reachable f) (unreachable c) = absurd (f c)
  one_choice (reachable f) (reachable h) = refl
  one_choice (reachable f) (no_choice h) = refl
  one_choice (no_choice h) (unreachable c) = absurd (clash true refl h)
  one_choice (no_choice h) (reachable f) = refl
  one_choice (no_choice h) (no_choice k) = refl

  one_skipped : {r : SpannedRule} {fs gs : List Finding} → OfSkipped g r fs → OfSkipped g r gs → fs ≡ gs
  one_skipped (skipped h d) (skipped k e) = one_repeated d e
  one_skipped {r} (skipped h d) (not_skipped k) = absurd (clash (is_skipped_name r.name) h k)
  one_skipped {r} (not_skipped k) (skipped h d) = absurd (clash (is_skipped_name r.name) h k)
  one_skipped (not_skipped h) (not_skipped k) = refl

-- and so of all
module _ {X : Type 0} (R : X → List Finding → Type 0) (once : (x : X) (fs gs : List Finding) → R x fs → R x gs → fs ≡ gs) where
  one_of_all : {xs : List X} {fs gs : List Finding} → Reports R xs fs → Reports R xs gs → fs ≡ gs
  one_of_all reports_none reports_none = refl
  one_of_all (reports_at {x = x} {fs = fs} {gs = gs} d t) (reports_at {fs = hs} {gs = is} e u) =
      ap (λ z. z ++ gs) (once x fs hs d e) ∙ ap (λ z. hs ++ z) (one_of_all t u)

one_found : (rules : List SpannedRule) (endless : List Span) (found other : List Finding) → AreFound rules endless found → AreFound rules endless other → found ≡ other
one_found rules endless found other a b =
    let G = rules_without_spans rules in
    let repetitions = one_of_all (OfRepetition G) (λ x fs gs. one_repetition G) a.of_repetitions b.of_repetitions in
    let choices = one_of_all (OfChoice G) (λ x fs gs. one_choice G) a.of_choices b.of_choices in
    let skips = one_of_all (OfSkipped G) (λ r fs gs. one_skipped G) a.of_skips b.of_skips in
    let recursions = one_list rules (places rules) a.recursions b.recursions a.of_recursions b.of_recursions in
    let tags = of_tags rules in
    a.all ∙ ap (λ z. z ++ (map endless_at endless ++ (a.choices ++ (a.skips ++ (a.recursions ++ tags))))) repetitions
    ∙ ap (λ z. b.repetitions ++ (map endless_at endless ++ (z ++ (a.skips ++ (a.recursions ++ tags))))) choices
    ∙ ap (λ z. b.repetitions ++ (map endless_at endless ++ (b.choices ++ (z ++ (a.recursions ++ tags))))) skips
    ∙ ap (λ z. b.repetitions ++ (map endless_at endless ++ (b.choices ++ (b.skips ++ (z ++ tags))))) recursions
    ∙ sym b.all

-- 2. by place they have one order
pub by_place : IsStrictWeakOrder is_before
by_place = ranks_by (then_total (on_total (λ (s : Span). s.start) nat_cmp_total) (on_total (λ (s : Span). s.end) nat_cmp_total)) (λ (f : Finding). f.span)

one_sorted : (found sorted other : List Finding) → IsSortedBySpan found sorted → IsSortedBySpan found other → sorted ≡ other
one_sorted found sorted other a b =
    one_order is_before by_place sorted other (rises is_before by_place sorted a.rising) (rises is_before by_place other b.rising)
    (All-permutation (AgreeAt is_before by_place sorted other) found sorted a.same agree)
    (All-permutation (AgreeAt is_before by_place sorted other) found other b.same agree)
  where
    agree : All (AgreeAt is_before by_place sorted other) found
    agree k d h =
        let at = slice_get-get_or found k d h in
        a.stable k (get_or found k d) at ∙ sym (b.stable k (get_or found k d) at)

pub one_told : (rules : List SpannedRule) (endless : List Span) (errors others : List (Error Rule)) (a : AreReported rules endless errors) (b : AreReported rules endless others) → a.findings ≡ b.findings
one_told rules endless errors others a b =
    let found = one_found rules endless a.complete.0 b.complete.0 a.complete.1 b.complete.1 in
    one_sorted b.complete.0 a.findings b.findings (subst (λ fs. IsSortedBySpan fs a.findings) found a.complete.2) b.complete.2

-- 3. errors that tell of the same say the same
said_message : (message : List ℕ) (variant : ErrorVariant) → HasMessage message variant → message_of variant ≡ message
said_message message ParsingError h = absurd h
said_message message (CustomError own) h = h

pub says_alike : (c : Complaint) (error other : Error Rule) → IsErrorAt c.message c.span error → IsErrorAt c.message c.span other → IsAlike error other
says_alike c error other a b = record {
  message = said_message c.message error.variant a.variant ∙ sym (said_message c.message other.variant b.variant);
  location = a.location ∙ sym b.location;
  line_col = a.line_col ∙ sym b.line_col;
  line = a.line ∙ sym b.line;
}

pub tell_alike : (complaints : List Complaint) (errors others : List (Error Rule)) → AreErrorsFor complaints errors → AreErrorsFor complaints others → AreAlike errors others
tell_alike [] [] [] a b = tt
tell_alike [] [] (f ∷ fs) a b = absurd b
tell_alike [] (e ∷ es) others a b = absurd a
tell_alike (c ∷ cs) [] others a b = absurd a
tell_alike (c ∷ cs) (e ∷ es) [] a b = absurd b
tell_alike (c ∷ cs) (e ∷ es) (f ∷ fs) a b = (says_alike c e f a.0 b.0, tell_alike cs es fs a.1 b.1)

pub one_list_of_errors : (rules : List SpannedRule) (endless : List Span) (errors others : List (Error Rule)) → AreReported rules endless errors → AreReported rules endless others → AreAlike errors others
one_list_of_errors rules endless errors others a b =
    tell_alike b.findings errors others (subst (λ fs. AreErrorsFor fs errors) (one_told rules endless errors others a b) a.told) b.told
