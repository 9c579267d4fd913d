use Rattle.std.proofs.Common.{take, map}
use Rattle.base_language.specs.Pieces.Saying.{AreErrorsFor}
use Rattle.front_spanned.specs.Nodes.{piece_of}
use Rattle.front_stack_loops.specs.Certain.{complaint_at}
use Rattle.front_stack_loops.proofs.repetitions.errors_at.Given as goal

abbrev pub invariant-loop-place : goal.invariant-loop-place
invariant-loop-place l = AreErrorsFor (map complaint_at (map piece_of (take l.place l.found))) l.errors.items
