use Rattle.std.proofs.Common.{◌≡◌, [], length}
use Rattle.server_symbols.specs.Selections.{grown_by}
use Rattle.server_symbols.proofs.selection.nest.Given as goal

abbrev pub invariant-loop-extent : goal.invariant-loop-extent
invariant-loop-extent l = grown_by l.extents.items l.rest ≡ grown_by [] l.parts

abbrev pub decreases-loop-extent : goal.decreases-loop-extent
decreases-loop-extent l = length l.rest
