use Rattle.server_symbols.proofs.Names.{names_named}
use Rattle.server_symbols.proofs.laws.definitions_are_named.Goals as goal

pub returns : goal.returns
returns c = names_named
