use Rattle.matcher_compiler.proofs.Growing.{later_twice}
use Rattle.matcher_code.specs.Laid as lay
use Rattle.matcher_compiler.proofs.plan.Plan.turns_from.Goals as goal

pub returns-clause-later : goal.returns-clause-later
returns-clause-later c = later_twice c.args.program.now _ _ _ (later_twice c.args.program.now _ _ _ (later_twice c.args.program.now _ _ _ (later_twice c.args.program.now _ _ _ (c.in_ok-operation.ensures.later c.args.program.now) (c.in_ok-operation-2.ensures.later c.args.program.now)) (c.in_ok-operation-3.ensures.later c.args.program.now)) (c.in_ok-point.ensures.later c.args.program.now tt)) (c.in_ok-point-2.ensures.later c.args.program.now c.requires.bound)

pub returns-clause-lays : goal.returns-clause-lays
returns-clause-lays c = λ classes code laid m enters.
    let m4 = (c.in_ok-point-2.ensures.later c.args.program.now c.requires.bound).met code laid m in
    let m3 = (c.in_ok-point.ensures.later c.args.program.now tt).met code laid m4 in
    let m2 = (c.in_ok-operation-3.ensures.later c.args.program.now).met code laid m3 in
    let m1 = (c.in_ok-operation-2.ensures.later c.args.program.now).met code laid m2 in
    lay.rep c.args.start _ _ _ _ c.requires.next enters (c.in_ok-operation.ensures.met c.args.program.now code laid m1) (c.in_ok-operation-2.ensures.met c.args.program.now code laid m2)
    (c.in_ok-point.ensures.has c.args.program.now code laid m4) (c.in_ok-point-2.ensures.has c.args.program.now code laid m) (c.in_ok-operation-3.ensures.met c.args.program.now code laid m3)
