use Rattle.std.proofs.Common.{◌≡◌, ◌++◌, map}
use Rattle.serde_json.specs.View.{view}
use Rattle.format_json.specs.Nodes.{heft_now, now_in_turn}
use Rattle.format_json.proofs.expressions.nodes_of.Given as goal

-- the nodes of what waits come behind what is written
abbrev pub invariant-loop-next : goal.invariant-loop-next
invariant-loop-next g l =
    map view l.values.items ++ now_in_turn g.E.AsNodes.nodes l.waiting.items ≡ g.E.AsNodes.nodes l.expr

abbrev pub decreases-loop-next : goal.decreases-loop-next
decreases-loop-next g l = heft_now g.E.AsNodes.heft l.waiting.items
