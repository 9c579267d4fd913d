use Rattle.std.proofs.Common.{◌++◌, ap, ◌∙◌, map}
use Rattle.serde_json.specs.View.{view}
use Rattle.format_json.specs.Nodes.{nodes_of_operands}
use Rattle.format_json.proofs.Turns.{written_top}
use Rattle.format_json.proofs.expressions.write_top.Goals as goal

pub returns-clause-written : goal.returns-clause-written
returns-clause-written g c =
    let ops = nodes_of_operands g.E.AsNodes.nodes c.in_ok-node.operands in
    ap (λ vs. map view vs ++ ops) c.in_ok-push.ensures.items
    ∙ written_top _ c.in_ok-to_value.field-0 _ ops _ c.in_ok-to_value.ensures c.in_ok-node.ensures.written
