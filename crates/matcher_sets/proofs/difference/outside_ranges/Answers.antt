use Rattle.std.proofs.Common.{arith}
use Rattle.matcher_sets.proofs.Outside.{range_left_out}
use Rattle.matcher_sets.proofs.difference.outside_ranges.Goals as goal

pub loop-from-preserved : goal.loop-from-preserved
loop-from-preserved c =
    let rest = rw c.deref-from-items.ensures.value at c.in_ok-rest.ensures in
    range_left_out c.args.others.now.items c.loop-from.from-index _ (omega arith) c.args.ranges.items c.loop-from.rest.items c.in_ok-rest.rest.items c.loop-from.invariant rest
