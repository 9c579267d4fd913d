use Rattle.std.proofs.Common.{◌+◌}
use Rattle.front_stack_loops.specs.Waiting.{effort_next, effort_waiting}
use Rattle.front_stack_loops.proofs.Awaiting.{ReadSoFar}
use Rattle.front_stack_loops.proofs.reader.read.Given as goal

abbrev pub invariant-steps : goal.invariant-steps
invariant-steps l = ReadSoFar l.table l.fn.memory l.memory l.fn.node l.fn.stack l.next l.waiting.items

abbrev pub decreases-steps : goal.decreases-steps
decreases-steps l = effort_next l.table l.next + effort_waiting l.table l.waiting.items
