use Rattle.base_language.proofs.laws.keeps_outcomes.Goals as goal
use Rattle.base_language.proofs.StepsKeepOutcomes.{keeps}

pub returns : goal.returns
returns c = keeps
