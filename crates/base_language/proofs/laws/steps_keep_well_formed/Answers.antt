use Rattle.base_language.proofs.StepsKeepGrammars.{well_formed_along}
use Rattle.base_language.proofs.laws.steps_keep_well_formed.Goals as goal

pub returns : goal.returns
returns c = well_formed_along
