-- The facts on which failures count.
use Rattle.std.proofs.Common.{◌≡◌, ℕ, refl, ◌∙◌, codes}
use Rattle.base_language.specs.Language.Text.{Text}
use Rattle.base_language.specs.Language.Expression.{Grammar, Ident, whitespace, comment}
use Rattle.base_language.specs.Language.State.{Classes, NonAtomicMode, Outcome}
use Rattle.base_language.specs.Language.Meaning.{Matches, str, call, seq, seq_second, neg_pred, right, atomic, compound_atomic}
use Rattle.base_language.specs.Language.FurthestFailure.{furthest}
use Rattle.base_language.proofs.FailurePlaces.{one_place}
use Rattle.test_calling.specs.SmallGrammars.{at_start}
use Rattle.test_calling.specs.FurthestPlaces.{HasRun, CountsUnderPredicate, CountsByMode, CountsWhenGivenUp}

-- all derivations have the place of one
comes_to : {g : Grammar} {classes : Classes} {t : Text} {o : Outcome} {n : ℕ} (f : Matches g classes (Ident (codes "a")) NonAtomicMode (at_start t) o) → furthest f ≡ n → HasRun g classes t o n
comes_to {g} {classes} f h = record { outcome = f; furthest_failure = λ d. one_place g classes d f ∙ h }

module _ (classes : Classes) where
  pub counts_under_predicate : CountsUnderPredicate classes
  unfolding whitespace comment
  counts_under_predicate = comes_to (call refl (seq str compound_atomic (seq (neg_pred (call refl str)) compound_atomic str))) refl

  pub counts_by_mode : CountsByMode classes
  unfolding whitespace comment
  counts_by_mode = record {
    in_atomic = comes_to (call refl (seq_second str atomic (call refl str))) refl;
    in_compound_atomic = comes_to (call refl (seq_second str compound_atomic (call refl str))) refl;
  }

  pub counts_when_given_up : CountsWhenGivenUp classes
  unfolding whitespace comment
  counts_when_given_up = record {
    both_fail = comes_to (call refl (right (seq_second str compound_atomic (call refl str)) str)) refl;
    second_matches = comes_to (call refl (right (seq_second str compound_atomic (call refl str)) str)) refl;
  }
