use Rattle.matcher_code.proofs.LastNames.{last_names}
use Rattle.matcher_code.proofs.laws.paths_end_in_expected_names.Goals as goal

pub returns : goal.returns
returns c = λ g classes k s o place d. last_names place d
