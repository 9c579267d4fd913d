use Rattle.std.proofs.Common.{◌∙◌}
use Rattle.front_optimizer.specs.Here.{stop}
use Rattle.front_optimizer.proofs.Rotating.{no_sequence, no_choice, no_turn}
use Rattle.front_optimizer.proofs.rotator.RotatorPass.stays_at.Goals as goal

pub returns-in_default-deref : goal.returns-in_default-deref
returns-in_default-deref c = rw c.in-Seq.is (stop (no_sequence c.in-Seq.left.value (λ a b h. c.in_default-deref.not-Seq a b (c.deref.ensures ∙ h)) _))

pub returns-in_default-deref-2 : goal.returns-in_default-deref-2
returns-in_default-deref-2 c = rw c.in-Choice.is (stop (no_choice c.in-Choice.left.value (λ a b h. c.in_default-deref-2.not-Choice a b (c.deref-in-Choice.ensures ∙ h)) _))

pub returns-in_default : goal.returns-in_default
returns-in_default c = stop (no_turn c.args.node.now c.in_default.not-Seq c.in_default.not-Choice)
