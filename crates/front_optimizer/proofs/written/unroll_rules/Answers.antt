use Rattle.std.proofs.Common.{length, arith, ◌∙◌, sym, ap}
use Rattle.std.proofs.lemmas.List.{nil_from_length}
use Rattle.base_language.proofs.StepsKeepOutcomes.{each_body, unrollings_keep}
use Rattle.base_language.specs.Rewritings.Rewriting.{Many, Unrolls}
use Rattle.front_optimizer.specs.Passes.{IsUnrolling}
use Rattle.front_optimizer.proofs.RuleByRule.{one_more, all_done, with_one_more}
use Rattle.front_optimizer.proofs.written.unroll_rules.Goals as goal

pub loop-rule-preserved : goal.loop-rule-preserved
loop-rule-preserved c = (
  tt,
  tt,
  with_one_more c.loop-rule.answer c.with_unrolled_rule-answer.result c.loop-rule.invariant.2 c.with_unrolled_rule-answer.ensures.added
      (λ so_far made before adds.
      let done = rw c.in-Some.ensures.steps.0 at before in
      rw adds.added (one_more (λ y. IsUnrolling) done adds.unrolls)),
  (let left = ap length c.in-Some.ensures.steps.0 in omega (arith, left, c.in-Some.ensures.steps.1, c.loop-rule.invariant.3)),
  c.with_unrolled_rule-answer.ensures.memory c.loop-rule.invariant.4,
)

pub returns-in-Ok-clause-rules : goal.returns-in-Ok-clause-rules
returns-in-Ok-clause-rules c =
    let nothing = nil_from_length _ (sym c.loop-rule.invariant.3 ∙ c.in-None.ensures.steps.0) in
    let known = rw c.in-Ok.is at c.loop-rule.invariant.2 in
    rw c.into_inner.ensures (all_done (λ y. IsUnrolling) (rw nothing at known))

pub returns-in-Ok-clause-outcomes : goal.returns-in-Ok-clause-outcomes
returns-in-Ok-clause-outcomes c =
    unrollings_keep _ _ (each_body (λ y. IsUnrolling) (λ y. Many Unrolls) (λ y a b d. d.steps) (returns-in-Ok-clause-rules c))
