use Rattle.std.proofs.Common.{◌≤◌, Err, ap, length, ◌∙◌}
use Rattle.std.proofs.lemmas.Result.{err_from_is_err_and}
use Rattle.matcher_program.proofs.Compiling.{all_program_rules, program_sound, rules_mean}
use Rattle.matcher_program.proofs.Refusing.{rule_refused}
use Rattle.matcher_program.proofs.compile.program_rules_of.Goals as goal

pub returns-clause-sound : goal.returns-clause-sound
returns-clause-sound c =
    let l : length c.args.rules.now.rules.now ≤ c.loop-rule.rule-index = c.loop-rule-test.false in
    λ white note w m. program_sound _ _ _ _ _ (all_program_rules _ _ _ l c.loop-rule.invariant.says) c.loop-rule.invariant.sound w m

pub returns-clause-means : goal.returns-clause-means
returns-clause-means c =
    let l : length c.args.rules.now.rules.now ≤ c.loop-rule.rule-index = c.loop-rule-test.false in
    rules_mean _ _ (all_program_rules _ _ _ l c.loop-rule.invariant.says)

pub returns-in_err-program_rule-clause-refused : goal.returns-in_err-program_rule-clause-refused
returns-in_err-program_rule-clause-refused c =
    let p = err_from_is_err_and c.from_residual.result c.from_residual.ensures.1 in
    rule_refused c.args.properties.now c.args.rules.now.rules.now c.loop-rule.rule-index c.rule-item.result c.from_residual.result c.in_err-program_rule.field-0.0 (p.1 ∙ ap (λ e. Err e) p.2) c.loop-rule-test.true c.rule-item.is c.in_err-program_rule.ensures.refused
