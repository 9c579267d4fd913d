use Rattle.std.proofs.Common.{refl, rules, subst}
use Rattle.matcher_engine.specs.declared.block.runs.BlockStop.{BlockStop}
use Rattle.matcher_support.specs.Compiled.{IsUnanswered}
use Rattle.std.specs.Str.{IsCharBoundary}
use Rattle.pest_run.proofs.Came.{any_limit, ends_at_character, shows, shows_unnamed, stops_at_character}
use Rattle.pest_run.proofs.outcomes.match_outcome.Goals as goal
use Rattle.pest_run.proofs.outcomes.match_outcome.Goals.{then-not-is_char_boundary-via-then-not-is_char_boundary, then-not-is_char_boundary-via-else-not-is_char_boundary+then-not-is_char_boundary-2}

pub returns-then-not-is_char_boundary : goal.returns-then-not-is_char_boundary
returns-then-not-is_char_boundary c = λ g of name found.
    let ends : IsCharBoundary c.args.text.now c.args.found.now.end = ends_at_character g _ c.args.text.now c.args.found.now c.utf8.text found in
    let stops : IsCharBoundary c.args.text.now c.args.found.now.furthest = stops_at_character g _ c.args.text.now c.args.found.now c.utf8.text found in
    elim c.then-not-is_char_boundary.branch [
      | then-not-is_char_boundary-via-then-not-is_char_boundary w ↦ (let no : ⊥ = search rules in no)
      | then-not-is_char_boundary-via-else-not-is_char_boundary+then-not-is_char_boundary-2 w ↦ (let no : ⊥ = search rules in no)
    ]

pub returns-in-Ok : goal.returns-in-Ok
returns-in-Ok c = λ g of name found.
    let names = c.in-Ok.ensures.expected g of in
    let told = rw c.deref.ensures.value at c.shown_outcome.ensures _ _ (c.walk-walk.ensures g of _ _ _ found) in
    shows g c.args.rule.now name c.args.text.now c.args.format c.args.limits c.args.found.now found c.in-Ok.names.items c.shown_outcome.result told names

pub returns-then-is_out_of_steps : goal.returns-then-is_out_of_steps
returns-then-is_out_of_steps c = λ g of name found.
    let P : BlockStop → Type 0 = λ s. IsUnanswered g c.args.rule.now c.args.text.now c.args.limits.names s in
    let long = subst P (c.is_out_of_steps.ensures.out c.if-is_out_of_steps.true) (c.in-Err.ensures.refused g of) in
    let told = c.unnamed_match.ensures _ _ (c.walk-walk-then-is_out_of_steps.ensures g of _ _ _ found) in
    shows_unnamed g c.args.rule.now name c.args.text.now c.args.format c.args.limits c.args.found.now found c.unnamed_match.result told (c.in-Err.ensures.asked refl) long

pub returns-else-is_out_of_steps : goal.returns-else-is_out_of_steps
returns-else-is_out_of_steps c = λ g of name found. c.refusal_outcome.ensures g of name c.args.text.now c.utf8.text c.args.format
    (any_limit g c.args.rule.now c.args.text.now _ c.args.limits.steps c.in-Err.stop (c.is_out_of_steps.ensures.other c.if-is_out_of_steps.false) (c.in-Err.ensures.refused g of))
