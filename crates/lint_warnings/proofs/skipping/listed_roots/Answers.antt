use Rattle.std.proofs.Common.{[]}
use Rattle.front_spanned.specs.Nodes.{rule_views}
use Rattle.front_spanned.proofs.Walks.{rule_step, all_rules}
use Rattle.lint_warnings.specs.Rules.{is_needed}
use Rattle.lint_warnings.specs.Skipping.{root_at}
use Rattle.lint_warnings.proofs.skipping.listed_roots.Goals as goal

pub loop-rule-preserved : goal.loop-rule-preserved
loop-rule-preserved c = λ f known.
    rule_step (root_at f) c.args.rules.now c.loop-rule.rule-index c.rule-item.result _ _ c.loop-rule-test.true c.rule-item.is
    (c.in_ok-add_root.ensures f known) (c.loop-rule.invariant f known)

pub returns : goal.returns
returns c =
    let f = is_needed [] (rule_views c.args.rules.now) in
    all_rules (root_at f) c.args.rules.now c.loop-rule.rule-index _ c.loop-rule-test.false (c.loop-rule.invariant f c.in_ok-called.ensures)
