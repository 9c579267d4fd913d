use Rattle.std.proofs.Common.{arith}
use Rattle.base_language.specs.Rewritings.Rewriting.{rotate_sequence}
use Rattle.front_optimizer.specs.Here.{stop, again}
use Rattle.front_optimizer.proofs.Rotating.{no_sequence}
use Rattle.front_optimizer.proofs.rotator.sequence.Goals as goal

pub turn-preserved : goal.turn-preserved
turn-preserved c =
    let h = rw (← c.take.ensures, c.in-Seq.is) at c.turn.invariant in (
      rw c.replace.ensures.after (λ b d. h.0 b (again rotate_sequence d)),
      rw c.replace.ensures.after (omega (arith, h.1)),
    )

pub returns-in_default : goal.returns-in_default
returns-in_default c = record {
  gives = rw c.replace-in_default.ensures.after (c.turn.invariant.0 _ (rw (← c.take.ensures) (stop (no_sequence c.take.result c.in_default.not-Seq _))));
  smaller = rw (c.replace-in_default.ensures.after, c.take.ensures) (omega (arith, c.turn.invariant.1));
}
