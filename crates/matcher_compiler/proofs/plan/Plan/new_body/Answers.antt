use Rattle.matcher_compiler.proofs.Growing.{later_twice}
use Rattle.matcher_compiler.proofs.plan.Plan.new_body.Goals as goal

pub returns : goal.returns
returns c = record { later = λ p within. later_twice p _ _ _ (c.in_ok-point.ensures.later p within) (c.remember.ensures p) }
