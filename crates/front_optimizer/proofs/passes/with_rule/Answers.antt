use Rattle.std.proofs.Common.{ap, refl, [], ◌∷◌}
use Rattle.std.proofs.lemmas.List.{map-append}
use Rattle.base_ast.specs.Ast.{rule_of_code, rule_type_of}
use Rattle.base_ast.specs.Optimized.{optimized_expression_of, optimized_rule_of}
use Rattle.front_optimizer.proofs.RuleByRule.{same_parts}
use Rattle.front_optimizer.proofs.passes.with_rule.Goals as goal

pub returns-clause-added : goal.returns-clause-added
returns-clause-added c = λ told.
    let made = c.in_ok-rule.rule in
    let same = same_parts (rule_of_code c.args.rule) (optimized_rule_of made) (rw c.into_inner.ensures at c.in_ok-rule.ensures.name) (ap rule_type_of (rw c.into_inner.ensures at c.in_ok-rule.ensures.ty)) in
    rw c.in_ok-answer.was (record {
      body = optimized_expression_of made.expr;
      added = rw (c.in_ok-push.ensures.pushed, map-append optimized_rule_of c.in_ok-answer.answer.value.items (made ∷ []), same) refl;
      optimized = λ g h. rw c.into_inner.ensures at c.in_ok-rule.ensures.body g told h;
    })
