use Rattle.std.proofs.Common.{◌≡◌, arith}
use Rattle.std.specs.HashMap.{get_by_text}
use Rattle.doc_diagram.proofs.Walking.{popped_load, popped_marks}
use Rattle.doc_diagram.proofs.build.build_boxes.Goals as goal

pub loop-step-smaller : goal.loop-step-smaller
loop-step-smaller c =
    let e = popped_load _ _ c.in-Some.step c.in-Some.ensures.items in
    let r = c.in_ok-run.ensures.lighter in
    omega (arith, e, r)

pub loop-step-preserved : goal.loop-step-preserved
loop-step-preserved c =
    popped_marks (get_by_text c.args.rules.now) _ _ c.in-Some.step _ _ _ c.in-Some.ensures.items c.in_ok-run.ensures.shown
    c.loop-step.invariant
