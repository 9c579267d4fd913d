use Rattle.pest_meta.proofs.Spelled.{spells_once}
use Rattle.pest_meta.proofs.laws.spells_one_grammar.Goals as goal

pub returns : goal.returns
returns c = spells_once
