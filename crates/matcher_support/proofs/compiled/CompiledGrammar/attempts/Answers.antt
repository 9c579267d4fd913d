use Rattle.std.proofs.Common.{◌∙◌, ap, chars, false, subst, sym}
use Rattle.std.proofs.lemmas.Str.{IsCharBoundary-start}
use Rattle.base_language.specs.Language.State.{State}
use Rattle.matcher_code.specs.Attempts.{attempts_at}
use Rattle.matcher_engine.proofs.Results.{first_state}
use Rattle.matcher_engine.specs.BlockRuns.{IsRefusal}
use Rattle.matcher_engine.specs.FailureAttempts.{AreAttempts}
use Rattle.matcher_program.specs.ExpectedNames.{each_once}
use Rattle.matcher_support.specs.Sets.{is_in_property}
use Rattle.matcher_support.proofs.AttemptNumbers.{attempts_have}
use Rattle.matcher_support.proofs.CompiledRuns.{refusal_unanswered}
use Rattle.matcher_support.proofs.compiled.CompiledGrammar.attempts.Goals as goal

pub of-requires-clause-starts_at_character : goal.of-requires-clause-starts_at_character
of-requires-clause-starts_at_character c = IsCharBoundary-start c.args.text.now c.utf8.text

pub of-requires-clause-ends_at_character : goal.of-requires-clause-ends_at_character
of-requires-clause-ends_at_character c = IsCharBoundary-start c.args.text.now c.utf8.text

pub returns-in-Err-clause-refused : goal.returns-in-Err-clause-refused
returns-in-Err-clause-refused c = λ g of. c.in-Err.ensures.refused g of c.args.text.now c.args.steps

pub returns-in-Ok-name_attempts-clause-attempts : goal.returns-in-Ok-name_attempts-clause-attempts
returns-in-Ok-name_attempts-clause-attempts c = λ g of.
    let n = chars c.args.rule.now in
    let s = first_state c.start_pos-start.result c.args.text.now (c.start_pos-start.ensures.text ∙ c.of.ensures.text) (c.start_pos-start.ensures.place ∙ c.of.ensures.start) in
    let it = c.in-Ok-attempts_block.attempts in
    let P : State → Type 0 = λ t. AreAttempts g n t is_in_property it in
    let y = subst P s (c.in-Ok-attempts_block.ensures.attempts g is_in_property of.code n (c.in-Ok.ensures.found g of)) in
    let names = c.rule_names.ensures g of in
    let a = attempts_at false it.place y.found in
    let have = attempts_have g false it.place y.found in
    let told = c.in-Ok-name_attempts.ensures in
    record {
      outcome = y.outcome;
      found = y.found;
      place = told.place ∙ y.place;
      positives = told.positives g names a.positives y.positives have.0 ∙ ap (λ k. each_once (attempts_at false k y.found).positives) (sym told.place);
      negatives = told.negatives g names a.negatives y.negatives have.1 ∙ ap (λ k. each_once (attempts_at false k y.found).negatives) (sym told.place);
    }

pub returns-clause-refused : goal.returns-clause-refused
returns-clause-refused c = λ g of.
    let n = chars c.args.rule.now in
    let s = first_state c.start_pos-start.result c.args.text.now (c.start_pos-start.ensures.text ∙ c.of.ensures.text) (c.start_pos-start.ensures.place ∙ c.of.ensures.start) in
    let P : State → Type 0 = λ t. IsRefusal g n t is_in_property c.args.steps c.in-Err-attempts_block.stop in
    refusal_unanswered g c.args.rule.now c.args.text.now c.args.steps c.in-Err-attempts_block.stop
    (subst P s (c.in-Err-attempts_block.ensures.refused g is_in_property of.code n (c.in-Ok.ensures.found g of)))
