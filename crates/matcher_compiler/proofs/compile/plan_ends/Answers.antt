use Rattle.matcher_compiler.proofs.Growing.{later_twice}
use Rattle.matcher_compiler.proofs.compile.plan_ends.Goals as goal

pub returns : goal.returns
returns c = λ p. later_twice p _ _ _ (later_twice p _ _ _ (c.in_ok-operation.ensures.later p) (c.in_ok-operation-2.ensures.later p)) (c.in_ok-operation-3.ensures.later p)
