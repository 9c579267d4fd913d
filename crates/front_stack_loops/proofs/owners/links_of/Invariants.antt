use Rattle.front_stack_loops.specs.Leading.{AreLinks}
use Rattle.front_stack_loops.proofs.owners.links_of.Given as goal

abbrev pub invariant-loop-place : goal.invariant-loop-place
invariant-loop-place l = AreLinks l.nodes l.roots l.links.items
