use Rattle.std.proofs.Common.{◌≡◌, length}
use Rattle.server_symbols.specs.Selections.{definition_at}
use Rattle.server_symbols.proofs.selection.definition_around.Given as goal

abbrev pub invariant-loop-definition : goal.invariant-loop-definition
invariant-loop-definition l = definition_at l.offset l.rest ≡ definition_at l.offset l.definitions

abbrev pub decreases-loop-definition : goal.decreases-loop-definition
decreases-loop-definition l = length l.rest
