use Rattle.std.proofs.Common.{◌≡◌, arith}
use Rattle.base_language.specs.Language.State.{Classes}
use Rattle.matcher_program.specs.Answers.{state_at}
use Rattle.matcher_program.specs.Programs.{Fits}
use Rattle.matcher_sets.specs.Forms as forms
use Rattle.matcher_engine.specs.FailureAttempts.{AreAttemptsFrom, AreToldAt}
use Rattle.matcher_engine.proofs.AttemptRuns.{at_last, at_place, err_answer, other_answer}
use Rattle.matcher_engine.proofs.attempts.find_attempts.Goals as goal

pub returns-in_err-first : goal.returns-in_err-first
returns-in_err-first c = λ p is n meant.
    err_answer p n (state_at c.args.start) c.args.steps _ c.from_residual.result c.in_err-first.field-0.0 c.from_residual.ensures.1 (c.in_err-first.ensures p is n meant)

pub returns-then-first-place : goal.returns-then-first-place
returns-then-first-place c = λ p is n meant classes fits.
    let h : c.in_ok-first.first.place ≡ c.args.place = omega (arith, c.if-first-place.true) in
    at_place (forms.grammar_in p) n (state_at c.args.start) classes c.args.place c.in_ok-first.first (c.in_ok-first.ensures p is n meant classes fits) h

pub returns-in_err-second : goal.returns-in_err-second
returns-in_err-second c = λ p is n meant.
    err_answer p n (state_at c.args.start) c.args.steps _ c.from_residual-in_err-second.result c.in_err-second.field-0.0 c.from_residual-in_err-second.ensures.1
    (c.in_err-second.ensures p is n meant)

pub returns-then-second-first : goal.returns-then-second-first
returns-then-second-first c = λ p is n meant classes fits.
    let h : c.in_ok-second.second.place ≡ c.in_ok-first.first.place = omega (arith, c.if-second-first.true) in
    at_place (forms.grammar_in p) n (state_at c.args.start) classes c.in_ok-first.first.place c.in_ok-second.second (c.in_ok-second.ensures p is n meant classes fits) h

pub returns : goal.returns
returns c = λ p is n meant.
    let g = forms.grammar_in p in
    let s = state_at c.args.start in
    other_answer p n s c.args.steps (λ it. (classes : Classes) → Fits p.properties.items classes → AreToldAt g n s classes c.in_ok-second.second.place it)
    (AreAttemptsFrom g p.properties.items n s) c.attempts_at-3.result
    (λ it z classes fits. at_last g n s classes c.args.place c.in_ok-first.first c.in_ok-second.second it (c.in_ok-first.ensures p is n meant classes fits)
    (c.in_ok-second.ensures p is n meant classes fits) (z classes fits)) (c.attempts_at-3.ensures p is n meant)
