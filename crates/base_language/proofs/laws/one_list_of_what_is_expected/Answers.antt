use Rattle.base_language.proofs.ExpectedOnce.{one_expected}
use Rattle.base_language.proofs.laws.one_list_of_what_is_expected.Goals as goal

pub returns : goal.returns
returns c = λ g classes e m s o p d f. one_expected g classes d f
