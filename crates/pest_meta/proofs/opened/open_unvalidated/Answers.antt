use Rattle.std.proofs.lemmas.Result.{err_from_is_err_and}
use Rattle.pest_meta.proofs.Opens.{flaw_refuses, names_refuse}
use Rattle.pest_meta.proofs.opened.open_unvalidated.Goals as goal

pub returns-in_err-forest-clause-refused : goal.returns-in_err-forest-clause-refused
returns-in_err-forest-clause-refused c =
    let p = err_from_is_err_and c.from_residual.result c.from_residual.ensures.1 in
    rw (p.1, p.2) c.in_err-forest.ensures.refused

pub returns-in_err-builtins-clause-refused : goal.returns-in_err-builtins-clause-refused
returns-in_err-builtins-clause-refused c =
    let p = err_from_is_err_and c.from_residual-in_err-builtins.result c.from_residual-in_err-builtins.ensures.1 in
    let parsed = c.in_ok-forest.ensures.forest in
    rw (p.1, p.2) (names_refuse c.args.text.now c.in_ok-forest.forest parsed.of_text parsed.of_grammar c.in_err-builtins.field-0.0 c.in_err-builtins.ensures.refused)

pub returns-in_err-rules-clause-refused : goal.returns-in_err-rules-clause-refused
returns-in_err-rules-clause-refused c =
    let p = err_from_is_err_and c.from_residual-in_err-rules.result c.from_residual-in_err-rules.ensures.1 in
    let parsed = c.in_ok-forest.ensures.forest in
    rw (p.1, p.2) (flaw_refuses c.args.text.now c.in_ok-forest.forest parsed.of_text parsed.of_grammar c.in_ok-builtins.ensures.no_complaints c.in_err-rules.field-0.0 c.in_err-rules.ensures.refused)

pub read_forest-requires : goal.read_forest-requires
read_forest-requires c = c.in_ok-forest.ensures.forest.of_grammar
