use Rattle.std.proofs.Common.{◌≡◌, ◌∙◌, chars, length, subst, sym}
use Rattle.std.proofs.lemmas.Str.{IsCharBoundary-start}
use Rattle.base_language.specs.Language.State.{State}
use Rattle.matcher_engine.proofs.Results.{first_state}
use Rattle.matcher_engine.specs.BlockRuns.{IsOutcome}
use Rattle.matcher_engine.specs.declared.block.runs.BlockStop.TheVariants as stop
use Rattle.matcher_engine.specs.Limits.{IsAmple, steps_of, turns_of}
use Rattle.matcher_program.specs.Answers.{HasAt}
use Rattle.matcher_program.specs.declared.answers.Stop.TheVariants as why
use Rattle.matcher_support.specs.Compiled.{operations_of}
use Rattle.matcher_support.specs.Sets.{is_in_property}
use Rattle.matcher_support.proofs.CompiledRuns.{outcome_refused, unanswered_refused}
use Rattle.matcher_support.proofs.compiled.CompiledGrammar.match_text.Goals as goal

pub of-requires-clause-starts_at_character : goal.of-requires-clause-starts_at_character
of-requires-clause-starts_at_character c = IsCharBoundary-start c.args.text.now c.utf8.text

pub of-requires-clause-ends_at_character : goal.of-requires-clause-ends_at_character
of-requires-clause-ends_at_character c = IsCharBoundary-start c.args.text.now c.utf8.text

pub returns-in-Err-clause-refused : goal.returns-in-Err-clause-refused
returns-in-Err-clause-refused c = λ g of.
    unanswered_refused g c.args.rule.now c.args.text.now (steps_of c.args.limit) c.in-Err.stop (c.in-Err.ensures.refused g of c.args.text.now (steps_of c.args.limit))

pub returns-in-Err-clause-answered : goal.returns-in-Err-clause-answered
returns-in-Err-clause-answered c = λ g of ample o d e.
    let z : c.in-Err.stop ≡ stop.Stopped why.OutOfSteps = cc in
    c.in-Err.ensures.unrun z

pub returns-clause-refused : goal.returns-clause-refused
returns-clause-refused c = λ g of.
    let n = chars c.args.rule.now in
    let s = first_state c.start_pos-start.result c.args.text.now (c.start_pos-start.ensures.text ∙ c.of.ensures.text) (c.start_pos-start.ensures.place ∙ c.of.ensures.start) in
    let P : State → Type 0 = λ t. IsOutcome g n t is_in_property (steps_of c.args.limit) c.run_block.result in
    outcome_refused g c.args.rule.now c.args.text.now (steps_of c.args.limit) c.run_block.result
    (subst P s (c.run_block.ensures.outcome g is_in_property of.code n (c.in-Ok.ensures.found g of)))

pub returns-clause-answered : goal.returns-clause-answered
returns-clause-answered c = λ g of ample o d.
    let n = chars c.args.rule.now in
    let text = c.start_pos-start.ensures.text ∙ c.of.ensures.text in
    let s = first_state c.start_pos-start.result c.args.text.now text (c.start_pos-start.ensures.place ∙ c.of.ensures.start) in
    let here = subst (λ t. IsAmple g (operations_of c.args.self.now) (length t) (turns_of c.args.limit)) (sym text) ample in
    c.run_block.ensures.answered g is_in_property of.code n (c.in-Ok.ensures.found g of) here o (subst (λ t. HasAt g n t is_in_property o) (sym s) d)
