use Rattle.std.proofs.lemmas.Result.{err_from_is_err_and}
use Rattle.pest_meta.proofs.Opens.{memory_refuses}
use Rattle.pest_meta.proofs.spanned.parse_with_spans.Goals as goal

pub returns-in-Ok-clause-rules : goal.returns-in-Ok-clause-rules
returns-in-Ok-clause-rules c = rw c.into_inner.ensures c.in-Ok.ensures.rules

pub returns-in_err-into_errors-in-Err-clause-refused : goal.returns-in_err-into_errors-in-Err-clause-refused
returns-in_err-into_errors-in-Err-clause-refused c =
    let p = err_from_is_err_and c.from_residual.result c.from_residual.ensures.1 in
    rw (p.1, p.2) (memory_refuses c.args.grammar.now c.in_err-into_errors-in-Err.field-0.0 c.in_err-into_errors-in-Err.ensures.memory)

pub into_errors-requires : goal.into_errors-requires
into_errors-requires c = c.in-Err.ensures.refused
