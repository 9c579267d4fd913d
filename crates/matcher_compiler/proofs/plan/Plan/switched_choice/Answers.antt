use Rattle.matcher_compiler.proofs.Growing.{later_twice}
use Rattle.matcher_code.specs.Laid as lay
use Rattle.matcher_compiler.proofs.plan.Plan.switched_choice.Goals as goal

pub returns-clause-later : goal.returns-clause-later
returns-clause-later c =
    let p = c.args.program.now in
    later_twice p _ _ _ (c.in_ok-table.ensures.later p) (later_twice p _ _ _ (c.in_ok-point.ensures.later p c.requires.left_bound)
    (later_twice p _ _ _ c.in_ok-label.ensures.later (c.in_ok-point-2.ensures.later p c.requires.right_bound)))

pub returns-clause-lays : goal.returns-clause-lays
returns-clause-lays c = λ classes fits code laid m.
    let p = c.args.program.now in
    let m3 = (c.in_ok-point-2.ensures.later p c.requires.right_bound).met code laid m in
    let m2 = c.in_ok-label.ensures.later.met code laid m3 in
    let m1 = (c.in_ok-point.ensures.later p c.requires.left_bound).met code laid m2 in
    lay.switched_choice c.args.fresh _ c.in_ok-label.label c.requires.up (c.in_ok-table.ensures.branches p _ c.requires.fails classes fits code laid m1)
    (c.in_ok-point.ensures.has p code laid m2) (c.in_ok-label.ensures.enters classes fits code laid m3) (c.in_ok-point-2.ensures.has p code laid m)
