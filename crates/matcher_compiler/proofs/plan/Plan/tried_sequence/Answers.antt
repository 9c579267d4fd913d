use Rattle.matcher_compiler.proofs.Growing.{later_twice, part_as}
use Rattle.matcher_code.specs.Laid as lay
use Rattle.matcher_compiler.proofs.plan.Plan.tried_sequence.Goals as goal

pub returns-clause-later : goal.returns-clause-later
returns-clause-later c = later_twice c.args.program.now _ _ _ (later_twice c.args.program.now _ _ _ (c.in_ok-operation.ensures.later c.args.program.now) (c.in_ok-operation-2.ensures.later c.args.program.now)) c.in_ok-parts.ensures.later

pub returns-clause-lays : goal.returns-clause-lays
returns-clause-lays c = λ a b left right classes fits code laid m.
    let m2 = c.in_ok-parts.ensures.later.met code laid m in
    let m1 = (c.in_ok-operation-2.ensures.later c.args.program.now).met code laid m2 in
    let x = c.in_ok-parts.ensures.lays code laid m in
    lay.tried_seq _ x.behind x.begin _ (c.in_ok-operation.ensures.met c.args.program.now code laid m1)
    (part_as laid left x.left) x.skipping (part_as laid right x.right)
    (c.in_ok-operation-2.ensures.met c.args.program.now code laid m2)
