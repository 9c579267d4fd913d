use Rattle.front_stack_loops.specs.Leading.{AreOwned}
use Rattle.front_stack_loops.proofs.owners.own_roots.Given as goal

abbrev pub invariant-loop-rule : goal.invariant-loop-rule
invariant-loop-rule l = AreOwned l.nodes l.roots l.owners.items
