use Rattle.front_stack_domain.proofs.laws.reported_is_certain.Goals as goal
use Rattle.front_stack_domain.proofs.Routes.{reported_is_certain}

pub returns : goal.returns
returns c = reported_is_certain
