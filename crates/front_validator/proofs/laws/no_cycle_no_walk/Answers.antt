use Rattle.front_validator.proofs.laws.no_cycle_no_walk.Goals as goal
use Rattle.front_validator.proofs.Walk.{no_walk}

pub returns : goal.returns
returns c = no_walk
