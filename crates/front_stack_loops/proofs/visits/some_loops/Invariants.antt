use Rattle.front_stack_loops.proofs.Visited.{NoLoopTo}
use Rattle.front_stack_loops.proofs.visits.some_loops.Given as goal

abbrev pub invariant-loop-stack : goal.invariant-loop-stack
invariant-loop-stack l = NoLoopTo l.stack-index l.table l.fn.memory l.memory l.body l.stacks
