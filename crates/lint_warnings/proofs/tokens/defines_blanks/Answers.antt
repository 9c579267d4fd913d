use Rattle.std.proofs.Common.{◌∙◌, sym, ap}
use Rattle.std.proofs.lemmas.List.{drop_all}
use Rattle.front_spanned.specs.Nodes.{rule_views}
use Rattle.lint_warnings.specs.Tokens.{defines_blanks}
use Rattle.lint_warnings.proofs.Reached.{blank_found, blank_passed}
use Rattle.lint_warnings.proofs.tokens.defines_blanks.Goals as goal

pub loop-rule-preserved : goal.loop-rule-preserved
loop-rule-preserved c =
    sym (blank_passed c.args.rules.now c.loop-rule.rule-index c.rule-item.result c.loop-rule-test.true c.rule-item.is (sym c.needs_no_call.ensures ∙ c.if-needs_no_call.false)) ∙ c.loop-rule.invariant

pub returns-then-needs_no_call : goal.returns-then-needs_no_call
returns-then-needs_no_call c =
    sym (blank_found c.args.rules.now c.loop-rule.rule-index c.rule-item.result c.loop-rule-test.true c.rule-item.is (sym c.needs_no_call.ensures ∙ c.if-needs_no_call.true)) ∙ c.loop-rule.invariant

pub returns : goal.returns
returns c = sym (ap (λ l. defines_blanks (rule_views l)) (drop_all c.loop-rule.rule-index c.args.rules.now c.loop-rule-test.false)) ∙ c.loop-rule.invariant
