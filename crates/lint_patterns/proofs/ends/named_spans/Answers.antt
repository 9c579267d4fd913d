use Rattle.lint_patterns.specs.Ends.{named_at}
use Rattle.front_spanned.proofs.Walks.{rule_step, all_rules}
use Rattle.lint_patterns.proofs.ends.named_spans.Goals as goal

pub loop-rule-preserved : goal.loop-rule-preserved
loop-rule-preserved c = λ f known.
    rule_step (named_at f) c.args.rules.now c.loop-rule.rule-index c.rule-item.result _ _ c.loop-rule-test.true c.rule-item.is
    (c.in_ok-add_where_named.ensures f known) (c.loop-rule.invariant f known)

pub returns : goal.returns
returns c = λ f known. all_rules (named_at f) c.args.rules.now c.loop-rule.rule-index _ c.loop-rule-test.false (c.loop-rule.invariant f known)
