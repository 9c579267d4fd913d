use Rattle.std.proofs.Common.{◌∙◌, ap, map}
use Rattle.std.proofs.lemmas.List.{take_all}
use Rattle.front_reader.specs.CommonNames.{common_name}
use Rattle.lint_findings.proofs.Helping.{one_name_more}
use Rattle.lint_findings.proofs.messages.expected_names.Goals as goal

pub loop-rule-preserved : goal.loop-rule-preserved
loop-rule-preserved c =
    one_name_more common_name c.deref-rule-items.result.now c.loop-rule.rule-index _ c.loop-rule.names.items c.push.new.self.items c.common_name.result
    c.loop-rule-test.true c.in_ok-push.ensures.items c.common_name.ensures c.loop-rule.invariant

pub returns : goal.returns
returns c = (
  c.in_ok-rules.rules.items,
  c.in_ok-rules.ensures.expected,
  c.loop-rule.invariant ∙ ap (map common_name) (take_all c.loop-rule.rule-index c.deref-rule-items.result.now c.loop-rule-test.false ∙ c.deref-rule-items.ensures.value),
)
