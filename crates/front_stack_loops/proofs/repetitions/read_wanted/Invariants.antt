use Rattle.front_stack_loops.specs.Visiting.{Keeps}
use Rattle.front_stack_loops.proofs.repetitions.read_wanted.Given as goal

abbrev pub invariant-loop-rule : goal.invariant-loop-rule
invariant-loop-rule l = Keeps l.table l.fn.memory l.memory
