use Rattle.std.proofs.Common.{ℕ, inr, subst}
use Rattle.base_ast.specs.Optimized.{optimized_rules_of}
use Rattle.pest_run.specs.Explanations.{IsExplanation}
use Rattle.pest_run.proofs.explanations.explanation_of.Goals as goal

pub returns-in-Ok : goal.returns-in-Ok
returns-in-Ok c = λ spelled read.
    let rules = optimized_rules_of c.in-Ok.rules.items in
    let P : ℕ → Type 0 = λ n. IsExplanation rules c.args.request.rule.now c.args.text.now c.args.request.format n c.explain_rules-explanation.result in
    let explains = rw c.deref.ensures.value at c.explain_rules-explanation.ensures in
    inr (rules, c.in-Ok.ensures.rules spelled read, subst P c.name_limit-steps.ensures explains)
