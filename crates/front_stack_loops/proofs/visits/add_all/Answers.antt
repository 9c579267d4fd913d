use Rattle.std.proofs.Common.{◌≡◌, sym, ap, subst, refl, arith, Some, slice_get, length, ◌+◌}
use Rattle.std.proofs.lemmas.Option.{slice_get_read}
use Rattle.front_stack_loops.proofs.Visited.{AddsTo, walk_added, walk_passed, walks_added}
use Rattle.front_stack_loops.proofs.visits.add_all.Goals.{in-Some+in_ok-add, in_default}
use Rattle.front_stack_loops.proofs.visits.add_all.Goals as goal

pub loop-walk-preserved : goal.loop-walk-preserved
loop-walk-preserved c =
    let got : slice_get c.args.trace.now c.loop-walk.walk-index ≡ Some c.walk-item.result = slice_get_read c.args.trace.now (length c.args.trace.now) c.loop-walk.walk-index c.walk-item.result refl (omega arith) c.walk-item.is in
    elim c.match-walk.branch [
      | in-Some+in_ok-add w ↦ subst (λ v. AddsTo (c.loop-walk.walk-index + 1) c.args.stacks.now.items v c.args.trace.now) (sym (ap (λ v. v.items) w.stacks-is)) (walk_added c.loop-walk.walk-index _ c.loop-walk.stacks.items w.add.new.stacks.items c.args.trace.now c.walk-item.result w.in-Some.stack c.loop-walk.invariant got w.in-Some.is w.in_ok-add.ensures)
      | in_default w ↦ subst (λ v. AddsTo (c.loop-walk.walk-index + 1) c.args.stacks.now.items v c.args.trace.now) (sym (ap (λ v. v.items) w.stacks-is)) (walk_passed c.loop-walk.walk-index _ c.loop-walk.stacks.items c.args.trace.now c.walk-item.result c.loop-walk.invariant got w.in_default.is)
    ]

pub returns : goal.returns
returns c = walks_added c.loop-walk.walk-index _ _ c.args.trace.now (omega arith) c.loop-walk.invariant
