use Rattle.base_language.proofs.laws.rotations_keep_outcomes.Goals as goal
use Rattle.base_language.proofs.StepsKeepOutcomes.{rotations_keep}

pub returns : goal.returns
returns c = rotations_keep
