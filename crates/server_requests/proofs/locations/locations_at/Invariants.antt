use Rattle.std.proofs.Common.{◌≡◌, ◌++◌, length, map}
use Rattle.serde_json.specs.View.{view}
use Rattle.server_requests.specs.Locations.{location_at}
use Rattle.server_requests.proofs.locations.locations_at.Given as goal

abbrev pub invariant-loop-extent : goal.invariant-loop-extent
invariant-loop-extent l = map view l.locations.items ++ map (location_at l.context) l.rest ≡ map (location_at l.context) l.extents

abbrev pub decreases-loop-extent : goal.decreases-loop-extent
decreases-loop-extent l = length l.rest
