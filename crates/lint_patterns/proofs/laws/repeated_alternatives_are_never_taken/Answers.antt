use Rattle.lint_patterns.proofs.Repeated.{fails_too}
use Rattle.front_spanned.specs.Erasure.{without_spans}
use Rattle.lint_warnings.proofs.Failing.{fails_alone}
use Rattle.lint_patterns.proofs.laws.repeated_alternatives_are_never_taken.Goals as goal

pub returns : goal.returns
returns c = λ earlier x h g classes m s k. fails_alone g classes m (without_spans x) s (fails_too g classes m s earlier (without_spans x) h k)
