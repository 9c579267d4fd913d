use Rattle.pest_meta.proofs.laws.reads_back.Goals as goal
use Rattle.pest_meta.proofs.WholeGrammar.{reads_back}

pub returns : goal.returns
returns c = reads_back
