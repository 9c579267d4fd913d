use Rattle.std.proofs.Common.{true}
use Rattle.front_stack_loops.specs.Leading.{AreLed}
use Rattle.front_stack_loops.proofs.groups.reached_by.Given as goal

abbrev pub invariant-loop-place : goal.invariant-loop-place
invariant-loop-place l = AreLed l.nodes l.roots true l.fn.leaders l.reached.items
