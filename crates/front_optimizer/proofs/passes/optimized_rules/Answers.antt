use Rattle.std.proofs.Common.{length, arith, ◌∙◌, sym, ap}
use Rattle.std.proofs.lemmas.List.{nil_from_length}
use Rattle.base_ast.specs.Ast.{rule_of_code}
use Rattle.front_optimizer.specs.Passes.{IsOptimizedBody}
use Rattle.front_optimizer.proofs.RuleByRule.{one_more, all_done, with_one_more}
use Rattle.front_optimizer.proofs.Turning.{for_first, for_others}
use Rattle.front_optimizer.proofs.passes.optimized_rules.Goals as goal

pub loop-rule-preserved : goal.loop-rule-preserved
loop-rule-preserved c = (
  tt,
  tt,
  with_one_more c.loop-rule.answer c.with_rule-answer.result c.loop-rule.invariant.2 (c.with_rule-answer.ensures.added c.in_ok-names.ensures)
      (λ so_far made before adds g h.
      let known = before g h in
      let done = rw c.in-Some.ensures.steps.0 at known.0 in
      let suffice = rw c.in-Some.ensures.steps.0 at known.1 in (
        rw adds.added (one_more (IsOptimizedBody g) done (adds.optimized g (for_first c.args.bodies.now g (rule_of_code c.in-Some.rule) _ suffice))),
        for_others c.args.bodies.now g (rule_of_code c.in-Some.rule) _ suffice,
      )),
  (let left = ap length c.in-Some.ensures.steps.0 in omega (arith, left, c.in-Some.ensures.steps.1, c.loop-rule.invariant.3)),
  c.with_rule-answer.ensures.memory c.loop-rule.invariant.4,
)

pub returns-in-Ok-clause-rules : goal.returns-in-Ok-clause-rules
returns-in-Ok-clause-rules c =
    let nothing = nil_from_length _ (sym c.loop-rule.invariant.3 ∙ c.in-None.ensures.steps.0) in
    let known = rw c.in-Ok.is at c.loop-rule.invariant.2 in
    λ g h. rw c.into_inner.ensures (all_done (IsOptimizedBody g) (rw nothing at (known g h).0))
