use Rattle.std.proofs.Common.{◌≡◌, List, false, length, refl, subst, true, ℕ}
use Rattle.pest_run.specs.Explanations.{IsFormExplanation}
use Rattle.pest_run.specs.Steps.{name_limit}
use Rattle.pest_run.proofs.explanations.explain_failure.Goals as goal

pub returns-in_default-clause-explains : goal.returns-in_default-clause-explains
returns-in_default-clause-explains g c = λ spelled read readable. (let no : false ≡ true = c.in_default.ensures.readable.1 readable in cc)

pub returns-clause-explains : goal.returns-clause-explains
returns-clause-explains g c = λ spelled read readable.
    let of = c.args.request in
    let found = c.explanation_of-explanation in
    let P : List ℕ → Type 0 = λ t. IsFormExplanation of.form spelled of.rule.now t of.format (name_limit of.steps (length t)) found.result in
    record {
      explanation = found.result;
      is_so = subst P c.in-Some.ensures.text (found.ensures spelled read);
      writes = c.write_explanation.ensures;
    }

pub returns-clause-unread : goal.returns-clause-unread
returns-clause-unread g c = λ unreadable. absurd (unreadable (c.in-Some.ensures.readable.0 refl))
