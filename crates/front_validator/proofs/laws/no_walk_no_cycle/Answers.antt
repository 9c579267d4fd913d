use Rattle.front_validator.proofs.laws.no_walk_no_cycle.Goals as goal
use Rattle.front_validator.proofs.Walk.{no_cycle}

pub returns : goal.returns
returns c = no_cycle
