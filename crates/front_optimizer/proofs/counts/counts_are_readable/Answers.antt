use Rattle.std.proofs.Common.{rules, refl}
use Rattle.std.proofs.lemmas.List.{take_all}
use Rattle.std.proofs.lemmas.List.Elements.{All-more}
use Rattle.base_ast.specs.Ast.{expression_of}
use Rattle.front_optimizer.specs.Counts.{PartsAreReadable}
use Rattle.front_optimizer.proofs.Counted.{RuleIsReadable, all_readable, each_readable}
use Rattle.front_optimizer.proofs.counts.counts_are_readable.Goals as goal

pub returns-then-not-is_readable : goal.returns-then-not-is_readable
returns-then-not-is_readable c =
    let bad : PartsAreReadable (expression_of c.rule-item.result.expr) → ⊥ = search rules in
    ((λ h. cc), (λ u. absurd (bad (rw c.rule-item.is (each_readable _ _ _ c.loop-rule-test.true (rw c.deref-rule-items.ensures.value u))))))

pub loop-rule-preserved : goal.loop-rule-preserved
loop-rule-preserved c =
    let good : PartsAreReadable (expression_of c.rule-item.result.expr) = search rules in
    All-more RuleIsReadable _ _ c.rule-item.result c.loop-rule-test.true c.loop-rule.invariant (rw (← c.rule-item.is) good)

pub returns : goal.returns
returns c =
    let whole = take_all c.loop-rule.rule-index c.deref-rule-items.result.now c.loop-rule-test.false in
    ((λ h. rw (← c.deref-rule-items.ensures.value) (all_readable _ (rw whole at c.loop-rule.invariant))), (λ u. refl))
