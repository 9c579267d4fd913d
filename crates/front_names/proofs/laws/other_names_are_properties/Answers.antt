use Rattle.front_names.proofs.BuiltinLemmas.{other_meaning}
use Rattle.front_names.proofs.laws.other_names_are_properties.Goals as goal

pub returns : goal.returns
returns c = other_meaning
