use Rattle.std.proofs.Common.{◌≡◌, ◌++◌, length, map}
use Rattle.serde_json.specs.View.{view}
use Rattle.server_protocol.specs.Shown.{index_encoding, index_text}
use Rattle.server_features.specs.Diagnostics.{related_data}
use Rattle.server_features.proofs.diagnostics.related_values.Given as goal

abbrev pub invariant-loop-part : goal.invariant-loop-part
invariant-loop-part l = map view l.values.items ++ map (related_data (index_encoding l.index) (index_text l.index) l.uri) l.rest ≡ map (related_data (index_encoding l.index) (index_text l.index) l.uri) l.related

abbrev pub decreases-loop-part : goal.decreases-loop-part
decreases-loop-part l = length l.rest
