use Rattle.std.proofs.Common.{List, chars, subst}
use Rattle.std.proofs.lemmas.List.{take_all}
use Rattle.lint_patterns.specs.Rewritten.{is_optional_name}
use Rattle.lint_patterns.proofs.Optional.{optional_more}
use Rattle.front_spanned.specs.Nodes.{rule_views}
use Rattle.front_spanned.specs.declared.node.ParserRule.{ParserRule}
use Rattle.lint_warnings.specs.Lists.{HasNames}
use Rattle.lint_patterns.proofs.names.optional_names.Goals as goal

pub loop-rule-preserved : goal.loop-rule-preserved
loop-rule-preserved c = λ name u.
    optional_more c.args.rules.now c.loop-rule.rule-index c.rule-item.result (chars name) _ _ c.loop-rule-test.true c.rule-item.is
    (c.in_ok-add_where_optional.ensures name u) (c.loop-rule.invariant name u)

pub returns : goal.returns
returns c =
    let P : List ParserRule → Type 0 = λ rules. HasNames (is_optional_name (rule_views rules)) c.loop-rule.names in
    subst P (take_all c.loop-rule.rule-index c.args.rules.now c.loop-rule-test.false) c.loop-rule.invariant
