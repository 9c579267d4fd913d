use Rattle.std.proofs.Common.{Err, ap, ◌∙◌}
use Rattle.std.proofs.lemmas.Result.{err_from_is_err_and}
use Rattle.matcher_program.proofs.Refusing.{program_refused}
use Rattle.matcher_program.proofs.Compiling.{comment_chars, white_chars}
use Rattle.matcher_program.proofs.compile.program_of.Goals as goal

pub returns-clause-sound : goal.returns-clause-sound
returns-clause-sound g c =
    let w = rw (c.whitespace_name.ensures.named, white_chars) at c.number_of-whitespace.ensures in
    let m = rw (c.comment_name.ensures.named, comment_chars) at c.number_of-comment.ensures in
    rw (← c.deref.ensures.value) (c.in_ok-program_rules.ensures.sound _ _ w m)

pub returns-in_err-program_rules-clause-refused : goal.returns-in_err-program_rules-clause-refused
returns-in_err-program_rules-clause-refused g c =
    let p = err_from_is_err_and c.from_residual-in_err-program_rules.result c.from_residual-in_err-program_rules.ensures.1 in
    program_refused g.P.Properties.knows c.in_ok-properties.properties.items c.deref.result.now c.args.rules.now c.in_ok-rules.rules.rules.now c.from_residual-in_err-program_rules.result c.in_err-program_rules.field-0.0
    (p.1 ∙ ap (λ e. Err e) p.2) c.deref.ensures.value c.in_ok-rules.ensures.rules c.in_ok-properties.ensures.complete c.in_err-program_rules.ensures.refused
