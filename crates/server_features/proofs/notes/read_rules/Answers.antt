use Rattle.std.proofs.lemmas.Result.{err_from_is_err_and}
use Rattle.server_features.proofs.Knowing.{parse_refused, read_refused, rules_read}
use Rattle.server_features.proofs.notes.read_rules.Goals as goal

pub returns-in_err-forest-clause-refused : goal.returns-in_err-forest-clause-refused
returns-in_err-forest-clause-refused c =
    let p = err_from_is_err_and c.from_residual.result c.from_residual.ensures.1 in
    rw (p.1, p.2) (parse_refused c.args.text.now c.in_err-forest.field-0.0 c.in_err-forest.ensures.spelled)

pub returns-in_err-rules-clause-refused : goal.returns-in_err-rules-clause-refused
returns-in_err-rules-clause-refused c =
    let p = err_from_is_err_and c.from_residual-in_err-rules.result c.from_residual-in_err-rules.ensures.1 in
    rw (p.1, p.2)
    (read_refused c.args.text.now c.in_ok-forest.forest c.in_err-rules.field-0.0 c.in_ok-forest.ensures.text c.in_ok-forest.ensures.spelled c.in_err-rules.ensures.refused)

pub returns-clause-spelled : goal.returns-clause-spelled
returns-clause-spelled c =
    rules_read c.args.text.now c.in_ok-forest.forest c.in_ok-rules.rules.items c.in_ok-forest.ensures.text
    c.in_ok-forest.ensures.spelled c.in_ok-rules.ensures.flawless c.in_ok-rules.ensures.rules
