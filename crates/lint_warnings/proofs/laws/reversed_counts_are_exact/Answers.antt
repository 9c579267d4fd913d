use Rattle.std.proofs.Common.{ltb-true}
use Rattle.front_spanned.specs.Erasure.{without_spans}
use Rattle.lint_warnings.proofs.Suspicious.{same_count}
use Rattle.lint_warnings.proofs.laws.reversed_counts_are_exact.Goals as goal

pub returns : goal.returns
returns c = λ p x m n h g classes mode s o. same_count g classes mode (without_spans x) m n (ltb-true n m h) s o
