use Rattle.front_code.proofs.Exact.{exact_code}
use Rattle.front_code.proofs.laws.exact_code_is_laid.Goals as goal

pub returns : goal.returns
returns c = λ classes code is. exact_code classes code is
