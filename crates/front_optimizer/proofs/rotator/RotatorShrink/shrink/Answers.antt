use Rattle.std.proofs.Common.{arith}
use Rattle.front_optimizer.specs.Here.{stop}
use Rattle.front_optimizer.proofs.Rotating.{no_turn}
use Rattle.front_optimizer.proofs.rotator.RotatorShrink.shrink.Goals as goal

pub returns-in_default : goal.returns-in_default
returns-in_default c = record { gives = stop (no_turn c.args.expr c.in_default.not-Seq c.in_default.not-Choice); smaller = omega arith }
