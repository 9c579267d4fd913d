use Rattle.front_stack_loops.specs.Visiting.{effort_left}
use Rattle.front_stack_loops.proofs.Left.{VisitedSoFar}
use Rattle.front_stack_loops.proofs.visits.visit.Given as goal

abbrev pub invariant-loop-next : goal.invariant-loop-next
invariant-loop-next l = VisitedSoFar l.table l.fn.memory l.memory l.fn.start l.fn.found.items l.left.items l.found.items

abbrev pub decreases-loop-next : goal.decreases-loop-next
decreases-loop-next l = effort_left l.table l.left.items
