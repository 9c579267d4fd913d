use Rattle.front_stack_domain.proofs.laws.certain.Goals as goal
use Rattle.front_stack_domain.proofs.Certain.{certain}

pub returns : goal.returns
returns c = certain
