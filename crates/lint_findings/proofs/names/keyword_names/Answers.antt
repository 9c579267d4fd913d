use Rattle.front_spanned.proofs.Walks.{rule_step, all_rules}
use Rattle.lint_findings.specs.Names.{is_keyword, named_at}
use Rattle.lint_findings.proofs.names.keyword_names.Goals as goal

pub loop-rule-preserved : goal.loop-rule-preserved
loop-rule-preserved c =
    rule_step (named_at is_keyword) c.args.rules.now c.loop-rule.rule-index c.rule-item.result _ _ c.loop-rule-test.true c.rule-item.is
    c.in_ok-add_keyword.ensures c.loop-rule.invariant

pub returns : goal.returns
returns c = all_rules (named_at is_keyword) c.args.rules.now c.loop-rule.rule-index _ c.loop-rule-test.false c.loop-rule.invariant
