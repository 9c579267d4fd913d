use Rattle.std.proofs.Common.{refl, subst, sym}
use Rattle.matcher_code.specs.Laid.{GoesTo}
use Rattle.matcher_compiler.proofs.Growing.{later_same}
use Rattle.matcher_compiler.proofs.plan.Plan.miss.Goals as goal

pub returns-in_ok-operation-clause-goes : goal.returns-in_ok-operation-clause-goes
returns-in_ok-operation-clause-goes c = λ p code laid m. subst (λ b. GoesTo code b c.args.note c.args.on_fail) (sym c.if-noted.true) (c.in_ok-operation.ensures.met p code laid m)

pub returns-else-noted-clause-later : goal.returns-else-noted-clause-later
returns-else-noted-clause-later c = λ p. later_same p c.args.self.now

pub returns-else-noted-clause-goes : goal.returns-else-noted-clause-goes
returns-else-noted-clause-goes c = λ p code laid m. subst (λ b. GoesTo code b c.args.on_fail c.args.on_fail) (sym c.if-noted.false) refl
