use Rattle.std.proofs.Common.{ap, ◌∙◌}
use Rattle.format_json.specs.Nodes.{now_in_turn}
use Rattle.format_json.proofs.Turns.{now_in_turn_last, written_next}
use Rattle.format_json.proofs.expressions.nodes_of.Goals as goal

-- the node is written, and its operands wait in its place
pub loop-next-preserved : goal.loop-next-preserved
loop-next-preserved g c =
    let nodes = g.E.AsNodes.nodes in
    let taken = ap (now_in_turn nodes) c.in-Some.ensures.items ∙ now_in_turn_last nodes c.pop.new.self.items c.in-Some.next in
    written_next _ _ _ _ _ _ _ _ c.loop-next.invariant taken c.in_ok-operands.ensures.written c.in_ok-put.ensures.nodes
