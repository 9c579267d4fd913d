use Rattle.matcher_compiler.proofs.Fitting.{code_stackless}
use Rattle.matcher_compiler.proofs.laws.rules_without_stack_have_stackless_code.Goals as goal

pub returns : goal.returns
returns c = λ p code fits none. code_stackless p code fits none
