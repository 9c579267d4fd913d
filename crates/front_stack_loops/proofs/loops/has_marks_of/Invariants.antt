use Rattle.std.proofs.Common.{◌≡◌, drop}
use Rattle.front_stack_domain.specs.Stack.{are_among}
use Rattle.front_stack_loops.specs.Searching.{marks_in}
use Rattle.front_stack_domain.specs.Views.{stack_of}
use Rattle.front_stack_loops.proofs.loops.has_marks_of.Given as goal

abbrev pub invariant-loop-start : goal.invariant-loop-start
invariant-loop-start l = are_among (marks_in l.stacks) (stack_of l.stack).marks ≡ are_among (marks_in (drop l.start-index l.stacks)) (stack_of l.stack).marks
