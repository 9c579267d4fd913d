use Rattle.base_ast.specs.Ast.{expression_of}
use Rattle.front_optimizer.specs.Bodies.{Serve}
use Rattle.front_optimizer.proofs.Turning.{no_run}
use Rattle.front_optimizer.proofs.skipper.SkipperPass.stays_at.Goals as goal

pub returns : goal.returns
returns c = no_run (Serve c.args.self.now.bodies.now c.args.self.now.names.now) (expression_of c.args.node.now) c.is_no_turn.result c.is_no_turn.ensures
