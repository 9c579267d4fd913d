use Rattle.std.proofs.Common.{◌≡◌, List, false, length, refl, subst, true, ℕ}
use Rattle.base_ast.specs.Optimized.{optimized_rules_of}
use Rattle.pest_run.specs.Explanations.{IsExplanation}
use Rattle.pest_run.specs.Steps.{name_limit}
use Rattle.pest_run.proofs.explanations.explain_code.Goals as goal

pub returns-in_default-clause-explains : goal.returns-in_default-clause-explains
returns-in_default-clause-explains g c = λ rules is readable. (let no : false ≡ true = c.in_default.ensures.readable.1 readable in cc)

pub returns-clause-explains : goal.returns-clause-explains
returns-clause-explains g c = λ rules is readable.
    let of = c.args.request in
    let found = c.explain_block-explanation in
    let P : List ℕ → ℕ → Type 0 = λ t n. IsExplanation (optimized_rules_of rules) of.rule.now t of.format n found.result in
    let explains = found.ensures rules (rw c.deref.ensures.value is) in
    record {
      explanation = found.result;
      is_so = subst (λ t. P t (name_limit of.steps (length t))) c.in-Some.ensures.text (subst (λ n. P c.in-Some.input.now n) c.name_limit-steps.ensures explains);
      writes = c.write_explanation.ensures;
    }

pub returns-clause-unread : goal.returns-clause-unread
returns-clause-unread g c = λ unreadable. absurd (unreadable (c.in-Some.ensures.readable.0 refl))
