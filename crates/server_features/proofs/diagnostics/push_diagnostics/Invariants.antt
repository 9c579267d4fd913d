use Rattle.std.proofs.Common.{◌≡◌, ◌++◌, length, map}
use Rattle.serde_json.specs.View.{view}
use Rattle.server_protocol.specs.Shown.{index_encoding, index_text}
use Rattle.server_features.specs.Diagnostics.{diagnostic_data}
use Rattle.server_features.proofs.diagnostics.push_diagnostics.Given as goal

abbrev pub invariant-loop-diagnostic : goal.invariant-loop-diagnostic
invariant-loop-diagnostic l = map view l.values.items ++ map (diagnostic_data l.has_related (index_encoding l.index) (index_text l.index) l.uri) l.rest ≡ map view l.fn.values.items ++ map (diagnostic_data l.has_related (index_encoding l.index) (index_text l.index) l.uri) l.diagnostics

abbrev pub decreases-loop-diagnostic : goal.decreases-loop-diagnostic
decreases-loop-diagnostic l = length l.rest
