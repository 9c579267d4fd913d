use Rattle.lint_patterns.specs.Ends.{open_at}
use Rattle.front_spanned.proofs.Walks.{rule_step, all_rules}
use Rattle.lint_patterns.proofs.ends.open_among.Goals as goal

pub loop-rule-preserved : goal.loop-rule-preserved
loop-rule-preserved c = λ f g known asking.
    rule_step (open_at f g c.args.is_only) c.args.rules.now c.loop-rule.rule-index c.rule-item.result _ _ c.loop-rule-test.true c.rule-item.is
    (c.in_ok-add_where_open.ensures f g known asking) (c.loop-rule.invariant f g known asking)

pub returns : goal.returns
returns c = λ f g known asking.
    all_rules (open_at f g c.args.is_only) c.args.rules.now c.loop-rule.rule-index _ c.loop-rule-test.false (c.loop-rule.invariant f g known asking)
