use Rattle.std.proofs.Common.{length}
use Rattle.server_symbols.specs.Edits.{AreInOrder}
use Rattle.server_symbols.proofs.edits.are_in_order.Given as goal

abbrev pub invariant-loop-edit : goal.invariant-loop-edit
invariant-loop-edit l = AreInOrder l.cursor l.rest → AreInOrder 0 l.edits

abbrev pub decreases-loop-edit : goal.decreases-loop-edit
decreases-loop-edit l = length l.rest
