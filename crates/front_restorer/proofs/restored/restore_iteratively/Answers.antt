use Rattle.std.proofs.Common.{[], ◌+◌, length, refl, ◌++◌, ◌∷◌}
use Rattle.base_ast.specs.Optimized.{optimized_expression_of}
use Rattle.base_ast.proofs.Rebuilding.{same_inside, same_outside, less_inside, less_outside}
use Rattle.front_restorer.specs.Frames.{filled_in, flagged, flagged_by, names_left, names_to_meet, waits_around, work_in}
use Rattle.front_restorer.specs.KnownChanges.{changes_stack}
use Rattle.front_restorer.proofs.Stepping.{into, next_around, numbers_from, on_around, out}
use Rattle.front_restorer.proofs.restored.restore_iteratively.Goals as goal

pub open_expr-step-requires : goal.open_expr-step-requires
open_expr-step-requires c =
    let e = optimized_expression_of c.args.expr in
    let i = c.args.place.now in
    next_around c.args.changes.now [] (names_to_meet c.args.expr) i (i + length (names_to_meet c.args.expr)) (numbers_from c.args.changes.now e i c.requires.noted)

pub steps-init : goal.steps-init
steps-init c =
    let e = optimized_expression_of c.args.expr in
    let i = c.args.place.now in
    record {
      same = rw c.new-outside.ensures.items c.open_expr-step.ensures.meaning;
      numbers = rw c.new-outside.ensures.items (on_around c.args.changes.now [] (names_to_meet c.args.expr) (names_left c.open_expr-step.result) i c.open_expr-step.new.place (i + length (names_to_meet c.args.expr)) c.open_expr-step.ensures.reads (numbers_from c.args.changes.now e i c.requires.noted));
    }

pub open_expr-step-requires-in-Inside : goal.open_expr-step-requires-in-Inside
open_expr-step-requires-in-Inside c =
    let end = c.args.place.now + length (names_to_meet c.args.expr) in
    rw c.into_inner.ensures (next_around c.args.changes.now (c.steps.outside.items ++ (c.in-Inside.around ∷ [])) (names_to_meet c.in-Inside.operand) c.steps.place end
    (into c.args.changes.now c.steps.step c.steps.outside.items (c.steps.outside.items ++ (c.in-Inside.around ∷ [])) c.in-Inside.around c.in-Inside.operand c.steps.place end c.in-Inside.is refl c.steps.invariant.numbers))

pub steps-smaller-in-Inside : goal.steps-smaller-in-Inside
steps-smaller-in-Inside c =
    less_inside work_in waits_around c.steps.step c.open_expr-step-in-Inside.result c.steps.outside.items c.push.new.self.items c.in-Inside.around c.in-Inside.operand c.in-Inside.is c.in_ok-push-in-Inside.ensures.items (rw c.into_inner.ensures at c.open_expr-step-in-Inside.ensures.work)

pub steps-preserved-in-Inside : goal.steps-preserved-in-Inside
steps-preserved-in-Inside c =
    let p = changes_stack c.args.changes.now in
    let end = c.args.place.now + length (names_to_meet c.args.expr) in
    let next = c.open_expr-step-in-Inside in
    record {
      same = same_inside (flagged_by p) flagged (filled_in p) c.steps.step next.result c.steps.outside.items c.push.new.self.items c.in-Inside.around c.in-Inside.operand _ c.in-Inside.is c.in_ok-push-in-Inside.ensures.items (rw c.into_inner.ensures at next.ensures.meaning) c.steps.invariant.same;
      numbers = on_around c.args.changes.now c.push.new.self.items (names_to_meet c.in-Inside.operand) (names_left next.result) c.steps.place next.new.place end (rw c.into_inner.ensures at next.ensures.reads)
          (into c.args.changes.now c.steps.step c.steps.outside.items c.push.new.self.items c.in-Inside.around c.in-Inside.operand c.steps.place end c.in-Inside.is c.in_ok-push-in-Inside.ensures.items c.steps.invariant.numbers);
    }

pub steps-smaller : goal.steps-smaller
steps-smaller c =
    less_outside work_in waits_around c.steps.step c.in_ok-step-in-Some.step c.steps.outside.items c.pop.new.self.items c.in-Some.around c.in-Made.whole c.in-Made.is c.in-Some.ensures.items c.in_ok-step-in-Some.ensures.work

pub steps-preserved : goal.steps-preserved
steps-preserved c =
    let p = changes_stack c.args.changes.now in
    record {
      same = same_outside (flagged_by p) flagged (filled_in p) c.steps.step c.in_ok-step-in-Some.step c.steps.outside.items c.pop.new.self.items c.in-Some.around c.in-Made.whole _ c.in-Made.is c.in-Some.ensures.items (c.in_ok-step-in-Some.ensures.meaning p) c.steps.invariant.same;
      numbers = out c.args.changes.now c.steps.step c.in_ok-step-in-Some.step c.steps.outside.items c.pop.new.self.items c.in-Some.around c.in-Made.whole c.steps.place (c.args.place.now + length (names_to_meet c.args.expr)) c.in-Made.is c.in-Some.ensures.items c.in_ok-step-in-Some.ensures.names c.steps.invariant.numbers;
    }
