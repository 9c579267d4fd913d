use Rattle.std.proofs.Common.{All}
use Rattle.server_features.specs.Earlier.{IsMovedAmong}
use Rattle.server_features.proofs.earlier.move_parts.Given as goal

abbrev pub invariant-loop-part : goal.invariant-loop-part
invariant-loop-part l = All (IsMovedAmong l.moves.earlier.now l.moves.text.now l.parts) l.found.items
