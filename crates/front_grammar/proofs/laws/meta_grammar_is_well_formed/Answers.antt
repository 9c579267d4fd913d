use Rattle.front_grammar.proofs.MetaWellFormed.{counted, plain, well_formed}
use Rattle.front_grammar.proofs.laws.meta_grammar_is_well_formed.Goals as goal

pub returns : goal.returns
returns c = record { well_formed = well_formed; plain = plain; counts = counted }
