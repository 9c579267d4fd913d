use Rattle.std.proofs.Common.{◌≡◌, ◌++◌, length, map}
use Rattle.serde_json.specs.View.{view}
use Rattle.server_features.specs.Formatting.{edit_for}
use Rattle.server_features.proofs.formatting.edits_value.Given as goal

abbrev pub invariant-loop-edit : goal.invariant-loop-edit
invariant-loop-edit l = map view l.values.items ++ map (edit_for l.context l.formatted) l.rest ≡ map (edit_for l.context l.formatted) l.edits

abbrev pub decreases-loop-edit : goal.decreases-loop-edit
decreases-loop-edit l = length l.rest
