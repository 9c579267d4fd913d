use Rattle.front_stack_domain.specs.Views.{walk_of}
use Rattle.front_stack_loops.proofs.Follow.{TurnedSoFar}
use Rattle.front_stack_loops.proofs.reader.turn.Given as goal

abbrev pub invariant-loop-taken : goal.invariant-loop-taken
invariant-loop-taken l = TurnedSoFar l.table l.fn.memory l.memory l.body l.taken (walk_of l.fn.start) l.seen.items l.next l.walk
