use Rattle.lint_patterns.proofs.Finding.{found_all, found_more}
use Rattle.lint_patterns.specs.Rewritten.{is_optional_name}
use Rattle.front_spanned.specs.Nodes.{rule_views}
use Rattle.lint_patterns.proofs.lists.find_lists.Goals as goal

pub loop-rule-preserved : goal.loop-rule-preserved
loop-rule-preserved c = λ others left.
    let f = is_optional_name (rule_views c.args.rules.now) in
    found_more f c.args.rules.now c.loop-rule.rule-index c.rule-item.result _ _ others c.loop-rule-test.true c.rule-item.is
    (c.in_ok-add_where_rewritten.ensures f c.in_ok-optional.ensures) c.loop-rule.invariant left

pub returns : goal.returns
returns c = found_all (is_optional_name (rule_views c.args.rules.now)) c.args.rules.now c.loop-rule.rule-index _ c.loop-rule-test.false c.loop-rule.invariant
