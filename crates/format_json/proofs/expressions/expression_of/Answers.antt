use Rattle.std.proofs.Common.{◌<◌, ◌∙◌, sym, vec_len, arith}
use Rattle.format_json.proofs.Stopping.{is_some, left_over, stopped}
use Rattle.format_json.proofs.expressions.expression_of.Goals as goal

-- the node at which reading stops
pub returns-in-Err-clause-refused : goal.returns-in-Err-clause-refused
returns-in-Err-clause-refused g c =
    rw c.at_node.ensures
    (stopped g.E.AsNodes.nodes c.args.nodes.now c.loop-last.rest.now c.in-Some.before.now c.in-Some.last.now c.loop-last.operands.value.items c.in-Err.why c.loop-last.invariant c.in-Some.ensures.cases.0 c.in-Err.ensures.refused)

-- more than one expression is read
pub returns-in-Some-2-clause-refused : goal.returns-in-Some-2-clause-refused
returns-in-Some-2-clause-refused g c =
    let some : 0 < vec_len c.pop.new.self = is_some _ (sym c.is_empty.ensures ∙ c.if-is_empty.false) in
    left_over g.E.AsNodes.nodes c.args.nodes.now c.loop-last.rest.now c.loop-last.operands.value.items c.pop.new.self.items c.in-Some-2.expr c.loop-last.invariant c.in_default.ensures.cases c.in-Some-2.ensures.items (omega arith)
