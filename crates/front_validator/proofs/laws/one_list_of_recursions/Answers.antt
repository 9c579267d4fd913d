use Rattle.front_validator.specs.Findings.{places}
use Rattle.front_validator.proofs.laws.one_list_of_recursions.Goals as goal
use Rattle.front_validator.proofs.OneRecursionList.{one_list}

pub returns : goal.returns
returns c = λ rules found other a b. one_list rules (places rules) found other a b
