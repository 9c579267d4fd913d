use Rattle.lint_warnings.specs.Choices.{choices_in}
use Rattle.front_spanned.proofs.Walks.{rule_step, all_rules}
use Rattle.lint_warnings.proofs.choices.unreachable_choices.Goals as goal

pub loop-rule-preserved : goal.loop-rule-preserved
loop-rule-preserved c =
    rule_step (λ r. choices_in r.body) c.args.rules.now c.loop-rule.rule-index c.rule-item.result _ _ c.loop-rule-test.true c.rule-item.is
    c.in_ok-add_of_body.ensures c.loop-rule.invariant

pub returns : goal.returns
returns c = all_rules (λ r. choices_in r.body) c.args.rules.now c.loop-rule.rule-index _ c.loop-rule-test.false c.loop-rule.invariant
