use Rattle.front_validator.proofs.laws.well_formed_is_accepted.Goals as goal
use Rattle.front_validator.proofs.Reports.{refused}

pub returns : goal.returns
returns c = refused
