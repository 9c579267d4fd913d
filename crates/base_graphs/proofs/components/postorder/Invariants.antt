use Rattle.std.proofs.Common.{◌≡◌, length}
use Rattle.base_graphs.proofs.components.postorder.Given as goal

abbrev pub invariant-loop-number : goal.invariant-loop-number
invariant-loop-number l = length l.order.items ≡ l.count
