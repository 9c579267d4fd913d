use Rattle.std.proofs.Common.{◌≡◌, length}
use Rattle.std.specs.Option.{option_or}
use Rattle.server_features.specs.Remedies.{last_before}
use Rattle.server_features.proofs.remedies.last_before.Given as goal

abbrev pub invariant-loop-token : goal.invariant-loop-token
invariant-loop-token l = option_or (last_before l.offset l.rest) l.last ≡ last_before l.offset l.tokens

abbrev pub decreases-loop-token : goal.decreases-loop-token
decreases-loop-token l = length l.rest
