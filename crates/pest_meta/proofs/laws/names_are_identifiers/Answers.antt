use Rattle.pest_meta.proofs.laws.names_are_identifiers.Goals as goal
use Rattle.pest_meta.proofs.Identifiers.{names_are_identifiers}

pub returns : goal.returns
returns c = names_are_identifiers
