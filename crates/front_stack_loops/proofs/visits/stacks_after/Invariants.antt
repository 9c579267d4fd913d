use Rattle.front_stack_loops.specs.Visiting.{IsAfter}
use Rattle.front_stack_loops.proofs.Visited.{CollectsTo}
use Rattle.front_stack_loops.proofs.visits.stacks_after.Given as goal

abbrev pub invariant-loop-stack : goal.invariant-loop-stack
invariant-loop-stack l = CollectsTo l.stack-index l.table l.fn.memory l.memory (λ meaning. IsAfter (meaning l.first.node) l.first.choice) l.stacks l.found.items
