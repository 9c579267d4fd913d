use Rattle.front_stack_loops.proofs.Searched.{SearchedSoFar}
use Rattle.front_stack_loops.proofs.loops.loops.Given as goal

abbrev pub invariant-loop-done : goal.invariant-loop-done
invariant-loop-done l = SearchedSoFar l.table l.fn.memory l.memory l.body l.turns l.done l.fn.stack l.starts.items l.start
