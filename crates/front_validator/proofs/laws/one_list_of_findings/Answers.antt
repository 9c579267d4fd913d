use Rattle.front_validator.proofs.laws.one_list_of_findings.Goals as goal
use Rattle.front_validator.proofs.OneFindingList.{one_list_of_errors}

pub returns : goal.returns
returns c = one_list_of_errors
