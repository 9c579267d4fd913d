use Rattle.std.proofs.lemmas.Result.{err_from_is_err_and}
use Rattle.format_json.proofs.Reasons.{none_of_one, weaker}
use Rattle.format_json.proofs.expressions.one_operand.Goals as goal

pub returns-in_err-operand-clause-refused : goal.returns-in_err-operand-clause-refused
returns-in_err-operand-clause-refused g c =
    let p = err_from_is_err_and c.from_residual.result c.from_residual.ensures.1 in
    rw (p.1, p.2) (weaker _ _ _ (none_of_one c.args.operands.now.value.items) c.in_err-operand.ensures.refused)
