use Rattle.front_stack_loops.specs.Table.{copies}
use Rattle.front_stack_loops.specs.Visiting.{IsStartOf}
use Rattle.front_stack_loops.proofs.Visited.{CollectsTo}
use Rattle.front_stack_loops.proofs.visits.starts.Given as goal

abbrev pub invariant-loop-stack : goal.invariant-loop-stack
invariant-loop-stack l = CollectsTo l.stack-index l.table l.fn.memory l.memory (λ meaning. IsStartOf l.table.limit (meaning l.repeated.body) (copies l.repeated.counts.required l.repeated.counts.optional l.repeated.counts.endless)) l.stacks l.found.items
