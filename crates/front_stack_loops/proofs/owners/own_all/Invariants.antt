use Rattle.front_stack_loops.specs.Leading.{AreOwned}
use Rattle.front_stack_loops.proofs.owners.own_all.Given as goal

abbrev pub invariant-loop-done : goal.invariant-loop-done
invariant-loop-done l = AreOwned l.nodes l.roots l.owners.items
