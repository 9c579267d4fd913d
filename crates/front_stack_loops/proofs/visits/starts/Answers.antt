use Rattle.std.proofs.Common.{◌≡◌, refl, arith, Some, slice_get, length}
use Rattle.std.proofs.lemmas.Option.{slice_get_read}
use Rattle.front_stack_loops.specs.Table.{copies}
use Rattle.front_stack_loops.specs.Visiting.{IsStartOf}
use Rattle.front_stack_loops.proofs.Visited.{collects_more, collected}
use Rattle.front_stack_loops.proofs.visits.starts.Goals as goal

pub loop-stack-preserved : goal.loop-stack-preserved
loop-stack-preserved c =
    let got : slice_get c.args.stacks.now c.loop-stack.stack-index ≡ Some c.stack-item.result = slice_get_read c.args.stacks.now (length c.args.stacks.now) c.loop-stack.stack-index c.stack-item.result refl (omega arith) c.stack-item.is in
    collects_more c.loop-stack.stack-index c.args.table.now _ _ _ (λ meaning. IsStartOf c.args.table.now.limit (meaning c.args.repeated.body) (copies c.args.repeated.counts.required c.args.repeated.counts.optional c.args.repeated.counts.endless)) c.args.stacks.now _ _ c.stack-item.result c.loop-stack.invariant got c.in_ok-add_starts.ensures

pub returns : goal.returns
returns c = collected c.loop-stack.stack-index c.args.table.now _ _ (λ meaning. IsStartOf c.args.table.now.limit (meaning c.args.repeated.body) (copies c.args.repeated.counts.required c.args.repeated.counts.optional c.args.repeated.counts.endless)) c.args.stacks.now _ (omega arith) c.loop-stack.invariant
