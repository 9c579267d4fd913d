use Rattle.std.proofs.Common.{◌∙◌, ap}
use Rattle.base_ast.specs.Ast.{expression_of, rule_type_of}
use Rattle.lint_patterns.proofs.Passed.{passed_by}
use Rattle.lint_patterns.proofs.passes.run_passes.Goals as goal

pub returns : goal.returns
returns c =
    let first = c.in_ok-rule.rule in
    let second = c.in_ok-rule-2.rule in
    passed_by (rule_type_of c.args.rule.ty) (rule_type_of first.ty) (rule_type_of second.ty) (expression_of c.args.rule.expr) (expression_of first.expr) (expression_of second.expr) c.factor.result
    c.in_ok-rule.ensures.steps c.in_ok-rule.ensures.unrolled c.in_ok-rule-2.ensures.done
    (ap rule_type_of c.in_ok-rule.ensures.ty) (ap rule_type_of (c.in_ok-rule-2.ensures.ty ∙ c.in_ok-rule.ensures.ty)) c.factor.ensures.steps c.factor.ensures.factored
