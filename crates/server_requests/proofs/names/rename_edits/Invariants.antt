use Rattle.std.proofs.Common.{◌≡◌, ◌++◌, length, map}
use Rattle.serde_json.specs.View.{view}
use Rattle.server_requests.specs.Locations.{edit_at}
use Rattle.server_requests.proofs.names.rename_edits.Given as goal

abbrev pub invariant-loop-extent : goal.invariant-loop-extent
invariant-loop-extent l = map view l.edits.items ++ map (edit_at l.context l.new_name) l.rest ≡ map (edit_at l.context l.new_name) l.extents

abbrev pub decreases-loop-extent : goal.decreases-loop-extent
decreases-loop-extent l = length l.rest
