use Rattle.std.proofs.Common.{◌≡◌, refl, arith, Some, slice_get, length}
use Rattle.std.proofs.lemmas.Option.{slice_get_read}
use Rattle.front_stack_loops.proofs.Visited.{loop_found, no_loop_more, no_loop_at_all}
use Rattle.front_stack_loops.proofs.visits.some_loops.Goals as goal

pub returns-then-branch : goal.returns-then-branch
returns-then-branch c =
    let got : slice_get c.args.stacks.now c.loop-stack.stack-index ≡ Some c.stack-item.result = slice_get_read c.args.stacks.now (length c.args.stacks.now) c.loop-stack.stack-index c.stack-item.result refl (omega arith) c.stack-item.is in
    loop_found c.loop-stack.stack-index c.args.table.now _ _ _ c.args.body c.args.stacks.now c.stack-item.result c.loop-stack.invariant got _ c.in_ok-loops.ensures c.if-branch.true

pub loop-stack-preserved : goal.loop-stack-preserved
loop-stack-preserved c =
    let got : slice_get c.args.stacks.now c.loop-stack.stack-index ≡ Some c.stack-item.result = slice_get_read c.args.stacks.now (length c.args.stacks.now) c.loop-stack.stack-index c.stack-item.result refl (omega arith) c.stack-item.is in
    no_loop_more c.loop-stack.stack-index c.args.table.now _ _ _ c.args.body c.args.stacks.now c.stack-item.result c.loop-stack.invariant got _ c.in_ok-loops.ensures c.if-branch.false

pub returns : goal.returns
returns c = no_loop_at_all c.loop-stack.stack-index c.args.table.now _ _ c.args.body c.args.stacks.now (omega arith) c.loop-stack.invariant
