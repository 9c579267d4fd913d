use Rattle.std.proofs.lemmas.Result.{err_from_is_err_and}
use Rattle.serde_json.specs.View.{view}
use Rattle.format_json.specs.Nodes.{in_turn}
use Rattle.format_json.proofs.Reasons.{no_node, no_parts, weaker}
use Rattle.format_json.proofs.expressions.expression_with.Goals as goal

pub returns-in_err-node-clause-refused : goal.returns-in_err-node-clause-refused
returns-in_err-node-clause-refused g c =
    let p = err_from_is_err_and c.from_residual.result c.from_residual.ensures.1 in
    let nodes = g.E.AsNodes.nodes in
    rw (p.1, p.2) (weaker _ _ _ (no_node nodes (view c.args.node.now) (in_turn nodes c.args.operands.now.value.items)) c.in_err-node.ensures.refused)

pub returns-in_err-expr-clause-refused : goal.returns-in_err-expr-clause-refused
returns-in_err-expr-clause-refused g c =
    let p = err_from_is_err_and c.from_residual-in_err-expr.result c.from_residual-in_err-expr.ensures.1 in
    let nodes = g.E.AsNodes.nodes in
    rw (p.1, p.2) (weaker _ _ _ (no_parts nodes _ (view c.args.node.now) (in_turn nodes c.args.operands.now.value.items) c.in_ok-node.ensures.node) c.in_err-expr.ensures.refused)
