use Rattle.std.proofs.Common.{ap₂}
use Rattle.base_language.specs.Language.Expression.{Seq}
use Rattle.front_optimizer.proofs.Unrolling.{one_copy}
use Rattle.front_optimizer.proofs.unroller.copies.Goals as goal

pub loop-turn-preserved : goal.loop-turn-preserved
loop-turn-preserved c = λ f fs h. rw (one_copy, c.in_ok-longer.ensures) (ap₂ Seq c.in_ok-copy.ensures (c.loop-turn.invariant f fs h))
