-- The facts on what is expected.
use Rattle.std.proofs.Common.{◌≡◌, List, refl, ◌∙◌, codes}
use Rattle.base_language.specs.Language.Text.{Text}
use Rattle.base_language.specs.Language.Expression.{Grammar, Ident, whitespace, comment}
use Rattle.base_language.specs.Language.State.{Classes, NonAtomicMode, Failure}
use Rattle.base_language.specs.Language.Meaning.{Matches, str, call, other, seq, seq_first, seq_second, neg_pred, pos_pred, right, atomic, compound_atomic}
use Rattle.base_language.specs.Language.Builtins.{builtins}
use Rattle.base_language.specs.Language.Expected.{expected}
use Rattle.base_language.proofs.ExpectedOnce.{one_expected}
use Rattle.test_calling.specs.SmallGrammars.{at_start}
use Rattle.test_calling.specs.ExpectedPlaces.{Expects, NoneBelowNot, NoneInAtomic, ExpectsAll, ExpectsTheOuter}

-- all derivations tell what one tells
pub expects : {g : Grammar} {classes : Classes} {t : Text} {names : List Text} (f : Matches g classes (Ident (codes "a")) NonAtomicMode (at_start t) Failure) → expected f ≡ names → Expects g classes t names
expects {g} {classes} f h = record { fails = f; expects = λ d. one_expected g classes d f ∙ h }

module _ (classes : Classes) where
  pub expects_the_outer : ExpectsTheOuter classes
  unfolding whitespace comment
  expects_the_outer = record {
    of_both = expects (call refl (seq_second str compound_atomic (call refl (right (call refl str) str)))) refl;
    below_silent = expects (call refl (seq_second str compound_atomic (call refl (right (call refl str) str)))) refl;
    further_on = expects (call refl (seq_second str compound_atomic (call refl (seq_second str compound_atomic (call refl str))))) refl;
  }

  pub expects_all : ExpectsAll classes
  unfolding whitespace comment builtins
  expects_all = record {
    both = expects (call refl (seq_second str compound_atomic (right (call refl str) (call refl str)))) refl;
    the_end = expects (call refl (seq_second str compound_atomic (right (other refl refl) (call refl str)))) refl;
  }

  pub none_below_not : NoneBelowNot classes
  unfolding whitespace comment
  none_below_not = record {
    below_not = expects (call refl (seq_second str compound_atomic (seq_second (neg_pred (call refl str)) compound_atomic (call refl str)))) refl;
    below_and = expects (call refl (seq_second str compound_atomic (seq_first (pos_pred (call refl str))))) refl;
    nothing_left = expects (call refl (seq_second str compound_atomic (seq_second (neg_pred (call refl str)) compound_atomic str))) refl;
  }

  pub none_in_atomic : NoneInAtomic classes
  unfolding whitespace comment
  none_in_atomic = expects (call refl (seq_second str atomic (call refl str))) refl
