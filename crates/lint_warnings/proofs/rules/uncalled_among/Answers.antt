use Rattle.lint_warnings.specs.Rules.{uncalled_at}
use Rattle.front_spanned.proofs.Walks.{rule_step, all_rules}
use Rattle.lint_warnings.proofs.rules.uncalled_among.Goals as goal

pub loop-rule-preserved : goal.loop-rule-preserved
loop-rule-preserved c = λ f known.
    rule_step (uncalled_at f) c.args.others.now c.loop-rule.rule-index c.rule-item.result _ _ c.loop-rule-test.true c.rule-item.is
    (c.in_ok-add_where_uncalled.ensures f known) (c.loop-rule.invariant f known)

pub returns : goal.returns
returns c = λ f known. all_rules (uncalled_at f) c.args.others.now c.loop-rule.rule-index _ c.loop-rule-test.false (c.loop-rule.invariant f known)
