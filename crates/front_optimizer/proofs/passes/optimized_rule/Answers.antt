use Rattle.std.proofs.Common.{◌≡◌, ◌∙◌, inl, inr, [], ap, sym, subst}
use Rattle.base_language.specs.Language.Expression.{Rule}
use Rattle.base_language.specs.Rewritings.Rewriting.{IsDone, SkipsUntil}
use Rattle.base_ast.specs.Ast.{expression_of, rule_type_of}
use Rattle.base_ast.specs.Optimized.{optimized_expression_of}
use Rattle.front_restorer.specs.Changing.{HasNoWrappers}
use Rattle.front_optimizer.proofs.Turning.{by_rotations, over_any}
use Rattle.front_optimizer.proofs.Wrapped.{bare}
use Rattle.front_optimizer.proofs.Unrolled.{by_joins, by_factors, by_listing}
use Rattle.front_optimizer.proofs.passes.optimized_rule.Goals as goal

pub rule_to_optimized_rule-requires : goal.rule_to_optimized_rule-requires
rule_to_optimized_rule-requires c =
    rw c.in_ok-rule-6.ensures.listed
    (by_listing (expression_of c.in_ok-rule-5.rule.expr) (by_factors c.in_ok-rule-5.ensures.steps (by_joins c.in_ok-rule-4.ensures.done.reached c.in_ok-rule-3.ensures.unrolled)))

pub returns-clause-body : goal.returns-clause-body
returns-clause-body c = λ g told h.
    let of_unrolled : c.in_ok-rule-3.rule.ty ≡ c.args.rule.ty = c.in_ok-rule-3.ensures.ty ∙ (c.in_ok-rule-2.ensures.ty ∙ c.in_ok-rule.ensures.ty) in
    let of_joined : c.in_ok-rule-4.rule.ty ≡ c.args.rule.ty = c.in_ok-rule-4.ensures.ty ∙ of_unrolled in
    let said : optimized_expression_of c.in_ok-rule_to_optimized_rule.field-0.expr ≡ expression_of c.in_ok-rule-6.rule.expr = ap (λ (r : Rule). r.body) c.in_ok-rule_to_optimized_rule.ensures in
    record {
      rotated = expression_of c.in_ok-rule.rule.expr;
      skipped = expression_of c.in_ok-rule-2.rule.expr;
      unrolled = expression_of c.in_ok-rule-3.rule.expr;
      joined = expression_of c.in_ok-rule-4.rule.expr;
      factored = expression_of c.in_ok-rule-5.rule.expr;
      rotates = c.in_ok-rule.ensures.done;
      skips = elim h as (λ k. IsDone (SkipsUntil g (rule_type_of c.args.rule.ty)) (expression_of c.in_ok-rule.rule.expr) (expression_of c.in_ok-rule-2.rule.expr)) [
        | inl k ↦ rw c.in_ok-rule.ensures.ty at c.in_ok-rule-2.ensures.done told g k
        | inr k ↦ over_any g [] c.args.rule.ty c.in_ok-rule.rule.expr _ (λ e. by_rotations c.in_ok-rule.ensures.done.reached (k.1.0 e)) (rw c.in_ok-rule.ensures.ty at c.in_ok-rule-2.ensures.done told [] k.0)
      ];
      unrolls = record { steps = c.in_ok-rule-3.ensures.steps; unrolled = c.in_ok-rule-3.ensures.unrolled };
      joins = rw of_unrolled at c.in_ok-rule-4.ensures.done;
      factors = record { steps = rw of_joined at c.in_ok-rule-5.ensures.steps; each_once = rw of_joined at c.in_ok-rule-5.ensures.factored };
      lists = said ∙ c.in_ok-rule-6.ensures.listed;
      bare = subst HasNoWrappers (sym said) (bare c.in_ok-rule-6.rule.expr);
    }
