use Rattle.std.proofs.Common.{refl, rules}
use Rattle.std.specs.Str.{IsCharBoundary}
use Rattle.pest_run.proofs.Came.{at_character}
use Rattle.pest_run.proofs.explanations.find_shown.Goals as goal

pub returns-then-not-is_char_boundary-clause-unexplained : goal.returns-then-not-is_char_boundary-clause-unexplained
returns-then-not-is_char_boundary-clause-unexplained c = λ g of fails format.
    let here : IsCharBoundary c.args.text.now c.args.furthest = at_character g c.args.rule.now c.args.text.now c.args.furthest c.utf8.text fails in
    let no : ⊥ = search rules in absurd no

pub returns-in-Ok-clause-reported : goal.returns-in-Ok-clause-reported
returns-in-Ok-clause-reported c = λ g of fails.
    record { furthest = c.args.furthest; fails = fails; failure = c.in-Ok.failure; found = c.in-Ok.ensures.found g of; same = refl }

pub returns-in-Err-clause-unexplained : goal.returns-in-Err-clause-unexplained
returns-in-Err-clause-unexplained c = λ g of fails format. c.refusal_explanation.ensures g c.args.rule.now c.args.text.now format (c.in-Err.ensures.refused g of)
