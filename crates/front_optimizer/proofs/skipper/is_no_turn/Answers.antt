use Rattle.front_optimizer.proofs.Turning.{no_rep}
use Rattle.front_optimizer.proofs.skipper.is_no_turn.Goals as goal

pub returns-in_default : goal.returns-in_default
returns-in_default c = no_rep c.args.expr.now c.in_default.not-Rep
