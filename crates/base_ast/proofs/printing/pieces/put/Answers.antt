use Rattle.base_ast.proofs.Pieces.{puts_one}
use Rattle.base_ast.proofs.printing.pieces.put.Goals as goal

pub returns-in-Ok : goal.returns-in-Ok
returns-in-Ok g c = puts_one _ _ _ _ c.args.piece c.in-Ok.ensures.items
