use Rattle.lint_warnings.specs.Tokens.{loose_in_rule}
use Rattle.front_spanned.proofs.Walks.{rule_step, all_rules}
use Rattle.lint_warnings.proofs.tokens.loose_among.Goals as goal

pub loop-rule-preserved : goal.loop-rule-preserved
loop-rule-preserved c = λ f g known classes.
    rule_step (loose_in_rule f g) c.args.rules.now c.loop-rule.rule-index c.rule-item.result _ _ c.loop-rule-test.true c.rule-item.is
    (c.in_ok-add_of_rule.ensures f g known classes) (c.loop-rule.invariant f g known classes)

pub returns : goal.returns
returns c = λ f g known classes. all_rules (loose_in_rule f g) c.args.rules.now c.loop-rule.rule-index _ c.loop-rule-test.false (c.loop-rule.invariant f g known classes)
