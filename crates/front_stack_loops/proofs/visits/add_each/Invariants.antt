use Rattle.front_stack_loops.proofs.Visited.{AddsUpTo}
use Rattle.front_stack_loops.proofs.visits.add_each.Given as goal

abbrev pub invariant-loop-stack : goal.invariant-loop-stack
invariant-loop-stack l = AddsUpTo l.stack-index l.fn.stacks.items l.stacks.items l.more
