use Rattle.std.proofs.Common.{◌≡◌, ◌++◌, length, map}
use Rattle.serde_json.specs.View.{view}
use Rattle.format_json.specs.Nodes.{in_turn}
use Rattle.format_json.proofs.expressions.expression_of.Given as goal

-- the nodes of what is made come behind those that are left
abbrev pub invariant-loop-last : goal.invariant-loop-last
invariant-loop-last g l =
    map view l.rest ++ in_turn g.E.AsNodes.nodes l.operands.value.items ≡ map view l.nodes

abbrev pub decreases-loop-last : goal.decreases-loop-last
decreases-loop-last g l = length l.rest
