use Rattle.server_symbols.proofs.Names.{occurrences_named}
use Rattle.server_symbols.proofs.laws.occurrences_are_named.Goals as goal

pub returns : goal.returns
returns c = occurrences_named
