use Rattle.front_spanned.specs.Erasure.{without_spans}
use Rattle.lint_warnings.proofs.Failing.{fails_alone, never_taken, changes_nothing}
use Rattle.lint_warnings.proofs.laws.begun_alternatives_are_never_taken.Goals as goal

pub returns : goal.returns
returns c = record {
  never = λ earlier x h g classes m s k. fails_alone g classes m (without_spans x) s (never_taken g classes m earlier x s h k);
  nothing = λ p x y h g classes m s o. changes_nothing g classes m p x y s o h;
}
