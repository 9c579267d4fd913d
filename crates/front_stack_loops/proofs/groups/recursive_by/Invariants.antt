use Rattle.front_stack_loops.proofs.GroupLemmas.{AreBack}
use Rattle.front_stack_loops.proofs.groups.recursive_by.Given as goal

abbrev pub invariant-loop-rule : goal.invariant-loop-rule
invariant-loop-rule l = AreBack l.nodes l.roots l.rule l.flags.items
