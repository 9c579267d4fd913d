use Rattle.std.proofs.Common.{inl, map}
use Rattle.std.proofs.lemmas.Result.{err_from_is_err_and}
use Rattle.serde_json.specs.View.{view}
use Rattle.format_json.proofs.Refused.{of_body}
use Rattle.format_json.proofs.rules.parts_of.Goals as goal

pub returns-in_err-name_in-clause-refused : goal.returns-in_err-name_in-clause-refused
returns-in_err-name_in-clause-refused g c =
    let p = err_from_is_err_and c.from_residual.result c.from_residual.ensures.1 in
    rw (p.1, p.2, c.in_err-name_in.ensures.refused.0) c.in_err-name_in.ensures.refused.1

pub returns-in_err-ty-clause-refused : goal.returns-in_err-ty-clause-refused
returns-in_err-ty-clause-refused g c =
    let p = err_from_is_err_and c.from_residual-in_err-ty.result c.from_residual-in_err-ty.ensures.1 in
    rw (p.1, p.2, c.in_err-ty.ensures.refused.0) c.in_err-ty.ensures.refused.1

pub returns-in_err-nodes-clause-refused : goal.returns-in_err-nodes-clause-refused
returns-in_err-nodes-clause-refused g c =
    let p = err_from_is_err_and c.from_residual-in_err-nodes.result c.from_residual-in_err-nodes.ensures.1 in
    rw (p.1, p.2, c.in_err-nodes.ensures.refused.0) (inl c.in_err-nodes.ensures.refused.1)

pub returns-in_err-body-clause-refused : goal.returns-in_err-body-clause-refused
returns-in_err-body-clause-refused g c =
    let p = err_from_is_err_and c.from_residual-in_err-body.result c.from_residual-in_err-body.ensures.1 in
    let body = rw c.as_slice.ensures.value at c.in_err-body.ensures.refused in
    rw (p.1, p.2) (of_body g.E.AsNodes.nodes (view c.args.value.now) (map view c.in_ok-nodes.nodes.now.items) c.in_err-body.field-0.0 c.in_ok-nodes.ensures.nodes body)
