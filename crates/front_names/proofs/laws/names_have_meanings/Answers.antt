use Rattle.front_names.proofs.BuiltinLemmas.{named_meaning}
use Rattle.front_names.proofs.laws.names_have_meanings.Goals as goal

pub returns : goal.returns
returns c = named_meaning
