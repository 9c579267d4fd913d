use Rattle.std.proofs.Common.{◌≡◌, ◌++◌, length}
use Rattle.server_symbols.specs.Renaming.{first, places_after}
use Rattle.server_symbols.proofs.renaming.places_of.Given as goal

abbrev pub invariant-loop-event : goal.invariant-loop-event
invariant-loop-event l = l.found.items ++ places_after l.text l.name l.last l.rest ≡ places_after l.text l.name first l.events

abbrev pub decreases-loop-event : goal.decreases-loop-event
decreases-loop-event l = length l.rest
