use Rattle.front_validator.proofs.laws.accepted_is_well_formed.Goals as goal
use Rattle.front_validator.proofs.Reports.{accepted}

pub returns : goal.returns
returns c = accepted
