use Rattle.matcher_compiler.proofs.Growing.{later_twice}
use Rattle.matcher_compiler.proofs.plan.Plan.text_at.Goals as goal

pub returns-clause-later : goal.returns-clause-later
returns-clause-later c = λ p. later_twice p _ _ _ (c.in_ok-number.ensures.later p) (c.in_ok-operation.ensures.later p)

pub returns-clause-has : goal.returns-clause-has
returns-clause-has c = λ p code laid m.
    let m1 = (c.in_ok-operation.ensures.later p).met code laid m in
    record { text = c.in_ok-number.number; is = c.in_ok-number.ensures.means p code laid m1; takes = c.in_ok-operation.ensures.met p code laid m }
