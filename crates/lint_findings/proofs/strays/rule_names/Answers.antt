use Rattle.std.proofs.Common.{◌∙◌, ap, chars, map}
use Rattle.std.proofs.lemmas.List.{take_all}
use Rattle.front_spanned.specs.Nodes.{rule_views}
use Rattle.lint_findings.proofs.Straying.{one_name}
use Rattle.lint_findings.proofs.strays.rule_names.Goals as goal

pub loop-rule-preserved : goal.loop-rule-preserved
loop-rule-preserved c =
    one_name c.args.rules.now c.loop-rule.rule-index c.rule-item.result c.as_str.result _ _ c.loop-rule-test.true c.rule-item.is c.in_ok-push.ensures.items (ap chars c.as_str.ensures.value) c.loop-rule.invariant

pub returns : goal.returns
returns c = c.loop-rule.invariant ∙ ap (λ rules. map (λ rule. rule.name) (rule_views rules)) (take_all c.loop-rule.rule-index c.args.rules.now c.loop-rule-test.false)
