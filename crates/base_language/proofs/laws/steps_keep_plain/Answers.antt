use Rattle.base_language.proofs.StepsKeepGrammars.{plain_along}
use Rattle.base_language.proofs.laws.steps_keep_plain.Goals as goal

pub returns : goal.returns
returns c = plain_along
