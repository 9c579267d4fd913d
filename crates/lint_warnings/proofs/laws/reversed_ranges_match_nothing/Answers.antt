use Rattle.front_spanned.specs.Erasure.{without_spans}
use Rattle.lint_warnings.proofs.Failing.{fails_alone, reversed_fails}
use Rattle.lint_warnings.proofs.laws.reversed_ranges_match_nothing.Goals as goal

pub returns : goal.returns
returns c = λ x h g classes m s. fails_alone g classes m (without_spans x) s (reversed_fails g classes m s x h)
