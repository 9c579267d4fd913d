use Rattle.std.proofs.Common.{refl}
use Rattle.front_stack_loops.proofs.copies.end.Goals as goal

pub returns : goal.returns
returns c = record { reading = c.reading-reading.result; next = refl; value = c.reading-reading.ensures; kept = c.in_ok-remember.ensures }
