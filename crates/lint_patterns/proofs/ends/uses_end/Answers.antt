use Rattle.std.proofs.Common.{◌∙◌, sym, ap, refl, rules}
use Rattle.std.proofs.lemmas.List.{drop_all}
use Rattle.front_spanned.specs.Nodes.{rule_views}
use Rattle.lint_patterns.specs.Ends.{asks_end, no_name, uses_end}
use Rattle.lint_patterns.proofs.Asking.{rule_fails, rule_passes}
use Rattle.lint_patterns.proofs.ends.uses_end.Goals as goal

pub loop-rule-init : goal.loop-rule-init
loop-rule-init c = (refl, search rules)

pub loop-rule-preserved : goal.loop-rule-preserved
loop-rule-preserved c = (
  sym (rule_fails (asks_end no_name) c.args.rules.now c.loop-rule.rule-index c.rule-item.result c.loop-rule-test.true c.rule-item.is (sym (c.in_ok-asks_end.ensures no_name c.loop-rule.invariant.1) ∙ c.if-branch.false)) ∙ c.loop-rule.invariant.0,
  c.loop-rule.invariant.1,
)

pub returns-then-branch : goal.returns-then-branch
returns-then-branch c =
    sym (rule_passes (asks_end no_name) c.args.rules.now c.loop-rule.rule-index c.rule-item.result c.loop-rule-test.true c.rule-item.is (sym (c.in_ok-asks_end.ensures no_name c.loop-rule.invariant.1) ∙ c.if-branch.true)) ∙ c.loop-rule.invariant.0

pub returns : goal.returns
returns c = sym (ap (λ l. uses_end (rule_views l)) (drop_all c.loop-rule.rule-index c.args.rules.now c.loop-rule-test.false)) ∙ c.loop-rule.invariant.0
