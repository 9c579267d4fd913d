use Rattle.std.proofs.lemmas.Result.{err_from_is_err_and}
use Rattle.format_json.proofs.Reasons.{none_of_two, one_of_two, weaker}
use Rattle.format_json.proofs.expressions.two_operands.Goals as goal

pub returns-in_err-left-clause-refused : goal.returns-in_err-left-clause-refused
returns-in_err-left-clause-refused g c =
    let p = err_from_is_err_and c.from_residual.result c.from_residual.ensures.1 in
    rw (p.1, p.2) (weaker _ _ _ (none_of_two c.args.operands.now.value.items) c.in_err-left.ensures.refused)

pub returns-in_err-right-clause-refused : goal.returns-in_err-right-clause-refused
returns-in_err-right-clause-refused g c =
    let p = err_from_is_err_and c.from_residual-in_err-right.result c.from_residual-in_err-right.ensures.1 in
    rw (p.1, p.2) (weaker _ _ _ (one_of_two c.args.operands.now.value.items c.operand.new.operands.value.items _ c.in_ok-left.ensures.taken) c.in_err-right.ensures.refused)
