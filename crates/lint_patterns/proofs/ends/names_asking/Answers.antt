use Rattle.std.proofs.Common.{List, chars, subst}
use Rattle.std.proofs.lemmas.List.{take_all}
use Rattle.front_spanned.specs.Nodes.{rule_views}
use Rattle.front_spanned.specs.declared.node.ParserRule.{ParserRule}
use Rattle.lint_warnings.specs.Lists.{HasNames}
use Rattle.lint_patterns.specs.Ends.{is_asking_by}
use Rattle.lint_patterns.proofs.Asking.{asking_step}
use Rattle.lint_patterns.proofs.ends.names_asking.Goals as goal

pub loop-rule-preserved : goal.loop-rule-preserved
loop-rule-preserved c = λ f known name u.
    asking_step f c.args.rules.now c.loop-rule.rule-index c.rule-item.result (chars name) _ _ c.loop-rule-test.true c.rule-item.is
    (c.in_ok-add_asking.ensures f known name u) (c.loop-rule.invariant f known name u)

pub returns : goal.returns
returns c = λ f known.
    let P : List ParserRule → Type 0 = λ rules. HasNames (is_asking_by f (rule_views rules)) c.loop-rule.names in
    subst P (take_all c.loop-rule.rule-index c.args.rules.now c.loop-rule-test.false) (c.loop-rule.invariant f known)
