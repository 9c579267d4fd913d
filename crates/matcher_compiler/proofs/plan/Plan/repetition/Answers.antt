use Rattle.matcher_compiler.proofs.Growing.{later_twice}
use Rattle.matcher_compiler.proofs.plan.Plan.repetition.Goals as goal

pub returns-clause-later : goal.returns-clause-later
returns-clause-later c = later_twice c.args.program.now _ _ _ c.in_ok-start.ensures.later c.in_ok-turns_from.ensures.later

pub returns-clause-lays : goal.returns-clause-lays
returns-clause-lays c = λ classes fits code laid m.
    let m1 = c.in_ok-turns_from.ensures.later.met code laid m in
    c.in_ok-turns_from.ensures.lays classes code laid m (c.in_ok-start.ensures.enters classes fits code laid m1)
