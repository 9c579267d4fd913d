use Rattle.front_code.proofs.Flattening.{whole_code}
use Rattle.front_code.proofs.laws.whole_code_is_laid.Goals as goal

pub returns : goal.returns
returns c = λ exact g classes code number called d. whole_code exact g classes code number called d
