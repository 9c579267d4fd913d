use Rattle.std.proofs.Common.{arith}
use Rattle.matcher_code.proofs.SetLemmas.{rule_more}
use Rattle.matcher_code.proofs.sets.byte_set_of.Goals as goal

pub loop-low-preserved : goal.loop-low-preserved
loop-low-preserved c =
    rule_more c.args.ranges.now c.loop-low.low-index _ _ c.loop-low.byte_set.items c.mark.new.byte_set.items (omega arith) (omega arith) c.loop-low.invariant c.mark.ensures.long c.mark.ensures.flags
