use Rattle.std.proofs.Common.{subst, sym}
use Rattle.base_ast.proofs.Rebuilding.{same_inside, same_outside, less_inside, less_outside, ready_inside, right_inside, ready_outside, last_ready}
use Rattle.base_ast.proofs.rebuilt.rebuild_tree.Goals as goal

pub steps-init : goal.steps-init
steps-init g c = (rw c.requires.empty c.in_ok-step.ensures.meaning, record { at_hand = c.in_ok-step.ensures.ready; outside = rw c.requires.empty tt })

pub open-requires-in-Inside : goal.open-requires-in-Inside
open-requires-in-Inside g c =
    subst g.R.Rebuild.is_right (sym c.into_inner.ensures) (right_inside _ _ c.steps.step _ _ _ c.in-Inside.is c.steps.invariant.1)

pub close-requires : goal.close-requires
close-requires g c = last_ready _ _ c.steps.step _ _ _ c.in-Some.ensures.items c.steps.invariant.1

pub steps-smaller-in-Inside : goal.steps-smaller-in-Inside
steps-smaller-in-Inside g c =
    less_inside g.R.Rebuild.size g.R.Rebuild.waits c.steps.step c.in_ok-step-in-Inside.step c.steps.outside.items c.push.new.self.items c.in-Inside.around c.in-Inside.operand c.in-Inside.is c.in_ok-push-in-Inside.ensures.items (rw c.into_inner.ensures at c.in_ok-step-in-Inside.ensures.work)

pub steps-preserved-in-Inside : goal.steps-preserved-in-Inside
steps-preserved-in-Inside g c = (
  same_inside g.R.Rebuild.says g.R.Rebuild.made g.R.Rebuild.fills c.steps.step c.in_ok-step-in-Inside.step c.steps.outside.items c.push.new.self.items c.in-Inside.around c.in-Inside.operand _ c.in-Inside.is c.in_ok-push-in-Inside.ensures.items (rw c.into_inner.ensures at c.in_ok-step-in-Inside.ensures.meaning) c.steps.invariant.0,
  ready_inside _ _ c.steps.step _ c.steps.outside.items _ c.in-Inside.around c.in-Inside.operand c.in-Inside.is c.in_ok-push-in-Inside.ensures.items c.steps.invariant.1 c.in_ok-step-in-Inside.ensures.ready,
)

pub steps-smaller : goal.steps-smaller
steps-smaller g c =
    less_outside g.R.Rebuild.size g.R.Rebuild.waits c.steps.step c.in_ok-step-in-Some.step c.steps.outside.items c.pop.new.self.items c.in-Some.around c.in-Made.tree c.in-Made.is c.in-Some.ensures.items c.in_ok-step-in-Some.ensures.work

pub steps-preserved : goal.steps-preserved
steps-preserved g c = (
  same_outside g.R.Rebuild.says g.R.Rebuild.made g.R.Rebuild.fills c.steps.step c.in_ok-step-in-Some.step c.steps.outside.items c.pop.new.self.items c.in-Some.around c.in-Made.tree _ c.in-Made.is c.in-Some.ensures.items c.in_ok-step-in-Some.ensures.meaning c.steps.invariant.0,
  ready_outside _ _ c.steps.step _ c.steps.outside.items _ c.in-Some.around c.in-Some.ensures.items c.steps.invariant.1 c.in_ok-step-in-Some.ensures.ready,
)
