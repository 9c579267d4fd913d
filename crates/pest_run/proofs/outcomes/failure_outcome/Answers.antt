use Rattle.std.proofs.Common.{rules, subst}
use Rattle.matcher_engine.specs.declared.block.runs.BlockStop.{BlockStop}
use Rattle.matcher_support.specs.Compiled.{IsUnanswered}
use Rattle.std.specs.Str.{IsCharBoundary}
use Rattle.pest_run.proofs.Came.{any_limit, at_character, failed, unnamed}
use Rattle.pest_run.proofs.outcomes.failure_outcome.Goals as goal

pub returns-then-not-is_char_boundary : goal.returns-then-not-is_char_boundary
returns-then-not-is_char_boundary c = λ g of format fails.
    let here : IsCharBoundary c.args.text.now c.args.place = at_character g c.args.rule.now c.args.text.now c.args.place c.utf8.text fails in
    let no : ⊥ = search rules in no

pub returns-in-Ok : goal.returns-in-Ok
returns-in-Ok c = λ g of format fails.
    failed g c.args.rule.now c.args.name.now c.args.text.now format c.args.limits c.args.place c.in-Ok.failure c.failed_outcome.result fails (c.in-Ok.ensures.found g of) c.failed_outcome.ensures

pub returns-then-is_out_of_steps : goal.returns-then-is_out_of_steps
returns-then-is_out_of_steps c = λ g of format fails.
    let P : BlockStop → Type 0 = λ s. IsUnanswered g c.args.rule.now c.args.text.now c.args.limits.names s in
    let long = subst P (c.is_out_of_steps.ensures.out c.if-is_out_of_steps.true) (c.in-Err.ensures.refused g of) in
    unnamed g c.args.rule.now c.args.name.now c.args.text.now format c.args.limits c.args.place c.unnamed_outcome.result fails long c.unnamed_outcome.ensures

pub returns-else-is_out_of_steps : goal.returns-else-is_out_of_steps
returns-else-is_out_of_steps c = λ g of format fails. c.refusal_outcome.ensures g of c.args.name.now c.args.text.now c.utf8.text format
    (any_limit g c.args.rule.now c.args.text.now _ c.args.limits.steps c.in-Err.stop (c.is_out_of_steps.ensures.other c.if-is_out_of_steps.false) (c.in-Err.ensures.refused g of))
