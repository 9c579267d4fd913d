use Rattle.std.proofs.Common.{[], codes, map}
use Rattle.base_language.specs.Language.Grammar.{keywords}
use Rattle.base_language.specs.Pieces.Saying.{piece_of}
use Rattle.server_symbols.proofs.Reserved.{has_error_for}
use Rattle.server_symbols.proofs.refusals.is_pest_keyword.Goals as goal

pub returns-in-Ok : goal.returns-in-Ok
returns-in-Ok c = cc (has_error_for keywords [] (codes " is a pest keyword") c.args.name.now (map piece_of c.in_ok-definitions.definitions.items) c.in-Ok.errors.items c.in_ok-definitions.ensures c.in-Ok.ensures.told)
