use Rattle.std.proofs.Common.{◌≡◌, None, length}
use Rattle.server_symbols.specs.Selections.{last_around}
use Rattle.server_symbols.proofs.selection.token_around.Given as goal

abbrev pub invariant-loop-token : goal.invariant-loop-token
invariant-loop-token l = last_around l.offset l.found l.rest ≡ last_around l.offset None l.tokens

abbrev pub decreases-loop-token : goal.decreases-loop-token
decreases-loop-token l = length l.rest
