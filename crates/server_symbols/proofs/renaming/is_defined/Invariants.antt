use Rattle.std.proofs.Common.{◌≡◌, length}
use Rattle.server_symbols.specs.Renaming.{is_defined, is_defined_after}
use Rattle.server_symbols.proofs.renaming.is_defined.Given as goal

abbrev pub invariant-loop-event : goal.invariant-loop-event
invariant-loop-event l = is_defined_after l.text l.name l.before l.last l.rest ≡ is_defined l.text l.name l.events

abbrev pub decreases-loop-event : goal.decreases-loop-event
decreases-loop-event l = length l.rest
