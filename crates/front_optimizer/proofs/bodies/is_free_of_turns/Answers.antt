use Rattle.front_optimizer.proofs.Turning.{free_if, is_atomic}
use Rattle.front_optimizer.proofs.bodies.is_free_of_turns.Goals as goal

pub returns-in-Atomic : goal.returns-in-Atomic
returns-in-Atomic c = free_if _ _ c.all_stay.result c.all_stay.ensures

pub returns-in_default : goal.returns-in_default
returns-in_default c = λ h. absurd (c.in_default.not-Atomic (is_atomic c.args.rule.now.ty h))
