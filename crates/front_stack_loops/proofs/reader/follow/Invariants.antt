use Rattle.front_stack_domain.specs.Views.{walk_of}
use Rattle.front_stack_loops.proofs.Follow.{FollowedSoFar}
use Rattle.front_stack_loops.proofs.reader.follow.Given as goal

abbrev pub invariant-loop-done : goal.invariant-loop-done
invariant-loop-done l = FollowedSoFar l.table l.fn.memory l.memory l.fn.series.body l.fn.series.required l.done (walk_of l.fn.start) l.trace.items l.walk
