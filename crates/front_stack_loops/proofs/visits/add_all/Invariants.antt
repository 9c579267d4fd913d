use Rattle.front_stack_loops.proofs.Visited.{AddsTo}
use Rattle.front_stack_loops.proofs.visits.add_all.Given as goal

abbrev pub invariant-loop-walk : goal.invariant-loop-walk
invariant-loop-walk l = AddsTo l.walk-index l.fn.stacks.items l.stacks.items l.trace
