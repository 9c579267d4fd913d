use Rattle.std.proofs.Common.{◌≡◌, length}
use Rattle.server_symbols.specs.Tokens.{is_equals_next}
use Rattle.server_symbols.proofs.outline.is_equals_next.Given as goal

abbrev pub invariant-loop-token : goal.invariant-loop-token
invariant-loop-token l = is_equals_next l.rest ≡ is_equals_next l.tokens

abbrev pub decreases-loop-token : goal.decreases-loop-token
decreases-loop-token l = length l.rest
