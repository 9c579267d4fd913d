use Rattle.std.proofs.Common.{◌≡◌, true, false}
use Rattle.server_symbols.proofs.Reserved.{whole_text}
use Rattle.server_symbols.proofs.refusals.definition_of.Goals as goal

pub returns-in-None : goal.returns-in-None
returns-in-None c = let h : false ≡ true = c.in-None.ensures.accepted.1 (whole_text c.args.name.now c.utf8.name) in cc
