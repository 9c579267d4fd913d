use Rattle.std.proofs.Common.{◌∙◌, ap}
use Rattle.std.proofs.lemmas.List.{take_all}
use Rattle.base_ast.specs.Ast.{rules_of}
use Rattle.pest_run.specs.RuleNames.{name_lines}
use Rattle.pest_run.proofs.RuleNames.{line_more}
use Rattle.pest_run.proofs.rule_names.name_lines.Goals as goal

pub loop-rule-preserved : goal.loop-rule-preserved
loop-rule-preserved c =
    let added = rw c.as_str.ensures.value at c.in_ok-add_line.ensures in
    line_more c.args.rules.now c.loop-rule.rule-index c.rule-item.result c.loop-rule-test.true c.rule-item.is _ _ added c.loop-rule.invariant

pub returns : goal.returns
returns c =
    c.loop-rule.invariant ∙ ap (λ rs. name_lines (rules_of rs)) (take_all c.loop-rule.rule-index c.args.rules.now c.loop-rule-test.false)
