use Rattle.std.proofs.Common.{take}
use Rattle.matcher_code.specs.Sets.{IsByteSetOf}
use Rattle.matcher_code.proofs.sets.byte_set_of.Given as goal

abbrev pub invariant-loop-low : goal.invariant-loop-low
invariant-loop-low l = IsByteSetOf (take l.low-index l.ranges) l.byte_set.items
