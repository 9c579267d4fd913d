use Rattle.std.proofs.Common.{◌≡◌, length}
use Rattle.front_stack_loops.proofs.Silence.{AreToldTo}
use Rattle.front_stack_loops.proofs.reportable.with_loops.Given as goal

abbrev pub invariant-loop-place : goal.invariant-loop-place
invariant-loop-place l = record {
  many : length l.flags.items ≡ l.place;
  told : AreToldTo l.nodes l.still l.flags.items l.place;
}
