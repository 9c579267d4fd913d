use Rattle.matcher_compiler.proofs.Fitting.{code_linear}
use Rattle.matcher_compiler.proofs.laws.code_is_linear_in_rules.Goals as goal

pub returns : goal.returns
returns c = λ p code fits. code_linear p code fits
