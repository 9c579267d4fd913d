use Rattle.base_graphs.specs.Numbers.{AreNumbers}
use Rattle.base_graphs.proofs.components.numbers.Given as goal

abbrev pub invariant-loop-number : goal.invariant-loop-number
invariant-loop-number l = AreNumbers l.number l.found.items
