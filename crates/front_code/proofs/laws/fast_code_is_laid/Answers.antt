use Rattle.front_code.proofs.Fast.{fast_code}
use Rattle.front_code.proofs.laws.fast_code_is_laid.Goals as goal

pub returns : goal.returns
returns c = λ classes code is. fast_code classes code is
