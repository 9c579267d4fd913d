use Rattle.std.proofs.Common.{refl, subst}
use Rattle.matcher_engine.specs.BlockRuns.{IsRefusal}
use Rattle.matcher_engine.specs.FailureAttempts.{AreAttempts}
use Rattle.pest_meta_c.proofs.compiled.pest_meta_attempts.Goals as goal

pub returns-in-Ok-clause-attempts : goal.returns-in-Ok-clause-attempts
returns-in-Ok-clause-attempts c = λ e. record {
  attempts = c.in-Ok.attempts;
  place_is = refl;
  positives_are = c.hand_out.ensures;
  negatives_are = c.hand_out-in-Ok.ensures;
  are = λ g classes is n meant.
      subst (λ s. AreAttempts g n s classes c.in-Ok.attempts) c.in-Some.ensures.state (c.in-Ok.ensures.attempts g classes is n meant);
}

pub returns-in-Err-clause-refused : goal.returns-in-Err-clause-refused
returns-in-Err-clause-refused c = λ answered text. record {
  why = c.in-Err.stop;
  told = c.stop_status.ensures.status;
  is = λ g classes is n meant.
      subst (λ s. IsRefusal g n s classes c.args.steps c.in-Err.stop) c.in-Some.ensures.state (c.in-Err.ensures.refused g classes is n meant);
}
