use Rattle.std.proofs.Common.{◌++◌, ◌-◌, List, length, map}
use Rattle.serde_json.specs.Data.{Data}
use Rattle.serde_json.specs.View.{view}
use Rattle.server_features.specs.Actions.{AreActionsOf}
use Rattle.server_features.proofs.actions.actions_of.Given as goal

abbrev pub invariant-loop-diagnostic : goal.invariant-loop-diagnostic
invariant-loop-diagnostic l = (others : List Data) → AreActionsOf l.context l.extent (20 - length (map view l.actions.items)) l.rest others → AreActionsOf l.context l.extent 20 l.diagnostics (map view l.actions.items ++ others)

abbrev pub decreases-loop-diagnostic : goal.decreases-loop-diagnostic
decreases-loop-diagnostic l = length l.rest
