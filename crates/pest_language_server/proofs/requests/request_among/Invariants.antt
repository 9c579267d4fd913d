use Rattle.std.proofs.Common.{◌≡◌, length, map}
use Rattle.pest_language_server.specs.Requests.{name_of, request_among}
use Rattle.pest_language_server.proofs.requests.request_among.Given as goal

abbrev pub invariant-loop-entry : goal.invariant-loop-entry
invariant-loop-entry l = request_among (map name_of l.rest) l.method ≡ request_among (map name_of l.names) l.method

abbrev pub decreases-loop-entry : goal.decreases-loop-entry
decreases-loop-entry l = length l.rest
