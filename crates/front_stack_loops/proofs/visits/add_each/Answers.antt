use Rattle.std.proofs.Common.{◌≡◌, refl, arith, Some, slice_get, length}
use Rattle.std.proofs.lemmas.Option.{slice_get_read}
use Rattle.front_stack_loops.proofs.Visited.{stack_added, stacks_added}
use Rattle.front_stack_loops.proofs.visits.add_each.Goals as goal

pub loop-stack-preserved : goal.loop-stack-preserved
loop-stack-preserved c =
    let got : slice_get c.args.more.now c.loop-stack.stack-index ≡ Some c.stack-item.result = slice_get_read c.args.more.now (length c.args.more.now) c.loop-stack.stack-index c.stack-item.result refl (omega arith) c.stack-item.is in
    stack_added c.loop-stack.stack-index _ c.loop-stack.stacks.items c.add.new.stacks.items c.args.more.now c.stack-item.result c.loop-stack.invariant got c.in_ok-add.ensures

pub returns : goal.returns
returns c = stacks_added c.loop-stack.stack-index _ _ c.args.more.now (omega arith) c.loop-stack.invariant
