use Rattle.std.proofs.Common.{inl, inr, rules}
use Rattle.std.proofs.lemmas.Result.{IfOk-weaker}
use Rattle.front_optimizer.proofs.bodies.bodies_for_skip.Goals as goal

pub returns-then-are_free : goal.returns-then-are_free
returns-then-are_free c = inr ((search rules), rw c.if-are_free.true at c.in_ok-are_free.ensures)

pub returns : goal.returns
returns c = IfOk-weaker c.bodies_of.result _ _ (λ bodies h. inl h) c.bodies_of.ensures
