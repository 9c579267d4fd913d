use Rattle.matcher_compiler.proofs.plan.Plan.enter_by_test.Goals as goal

pub returns-in_ok-first-in-Some-clause-later : goal.returns-in_ok-first-in-Some-clause-later
returns-in_ok-first-in-Some-clause-later c = c.in_ok-first-in-Some.ensures.later c.args.program.now

pub returns-in_ok-first-in-Some-clause-enters : goal.returns-in_ok-first-in-Some-clause-enters
returns-in_ok-first-in-Some-clause-enters c = c.in_ok-first-in-Some.ensures.enters c.args.program.now _ (rw c.in-Some.is at c.in_ok-made.ensures)
