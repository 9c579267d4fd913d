use Rattle.std.proofs.Common.{length, map}
use Rattle.serde_json.specs.View.{view}
use Rattle.server_protocol.proofs.Zips.{ReadsOn}
use Rattle.server_protocol.proofs.params.changes_of.Given as goal

abbrev pub invariant-loop-value : goal.invariant-loop-value
invariant-loop-value l = ReadsOn (map view l.values) (map view l.rest) l.changes.items

abbrev pub decreases-loop-value : goal.decreases-loop-value
decreases-loop-value l = length l.rest
