use Rattle.std.proofs.Common.{◌≡◌, length}
use Rattle.server_requests.specs.Around.{name_around}
use Rattle.server_requests.proofs.context.name_at.Given as goal

abbrev pub invariant-loop-token : goal.invariant-loop-token
invariant-loop-token l = name_around l.offset l.rest ≡ name_around l.offset l.tokens

abbrev pub decreases-loop-token : goal.decreases-loop-token
decreases-loop-token l = length l.rest
