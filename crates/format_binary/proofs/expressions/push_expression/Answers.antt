use Rattle.std.proofs.Common.{◌++◌, ap, ◌∙◌}
use Rattle.format_binary.specs.Nodes.{bytes_in_turn}
use Rattle.format_binary.proofs.Turns.{bytes_in_turn_last, written_on}
use Rattle.format_binary.proofs.expressions.push_expression.Goals as goal

-- the node is written, and its operands wait in its place
pub loop-next-preserved : goal.loop-next-preserved
loop-next-preserved g c =
    let bytes = g.E.AsNodes.bytes in
    let taken = ap (bytes_in_turn bytes) c.in-Some.ensures.items ∙ bytes_in_turn_last bytes c.pop.new.self.items c.in-Some.next in
    ap (λ t. c.push_node.new.out.items ++ t) c.in_ok-put.ensures.bytes
    ∙ written_on _ _ _ _ _ _ _ _ c.loop-next.invariant taken c.top.ensures.bytes c.in_ok-push_node.ensures
