use Rattle.lint_warnings.specs.Suspects.{suspects_in}
use Rattle.front_spanned.proofs.Walks.{rule_step, all_rules}
use Rattle.lint_warnings.proofs.suspects.suspect_spans.Goals as goal

pub loop-rule-preserved : goal.loop-rule-preserved
loop-rule-preserved c =
    rule_step (λ r. suspects_in c.args.reason r.body) c.args.rules.now c.loop-rule.rule-index c.rule-item.result _ _ c.loop-rule-test.true c.rule-item.is
    c.in_ok-add_of_body.ensures c.loop-rule.invariant

pub returns : goal.returns
returns c = all_rules (λ r. suspects_in c.args.reason r.body) c.args.rules.now c.loop-rule.rule-index _ c.loop-rule-test.false c.loop-rule.invariant
