use Rattle.std.proofs.Common.{ap}
use Rattle.matcher_program.specs.Answers.{state_at}
use Rattle.matcher_engine.proofs.AttemptRuns.{err_answer}
use Rattle.matcher_engine.proofs.attempts.attempts_at.Goals as goal

pub returns-in_err-tracer : goal.returns-in_err-tracer
returns-in_err-tracer c = λ p is n meant.
    err_answer p n (state_at c.args.start) c.args.steps _ c.from_residual.result c.in_err-tracer.field-0.0 c.from_residual.ensures.1 (c.in_err-tracer.ensures p is n meant)

pub returns : goal.returns
returns c = λ p is n meant classes fits.
    let y = c.in_ok-tracer.ensures p is n meant classes fits in
    record {
      outcome = y.outcome;
      found = y.found;
      place = ap (λ a. a.furthest) y.attempts;
      positives = ap (λ a. a.positives) y.attempts;
      negatives = ap (λ a. a.negatives) y.attempts;
    }
