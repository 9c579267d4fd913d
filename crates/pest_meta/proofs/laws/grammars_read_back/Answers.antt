use Rattle.pest_meta.proofs.WholeGrammar.{grammars_read_back}
use Rattle.pest_meta.proofs.laws.grammars_read_back.Goals as goal

pub returns : goal.returns
returns c = grammars_read_back
