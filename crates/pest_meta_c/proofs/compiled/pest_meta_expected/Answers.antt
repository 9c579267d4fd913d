use Rattle.std.proofs.Common.{subst, sym}
use Rattle.matcher_program.specs.Answers.{state_at}
use Rattle.matcher_engine.specs.BlockRuns.{AreExpected, IsRefusal}
use Rattle.pest_meta_c.proofs.compiled.pest_meta_expected.Goals as goal

pub returns-in-Ok-clause-expected : goal.returns-in-Ok-clause-expected
returns-in-Ok-clause-expected c = λ e g classes is n meant.
    subst (λ s. AreExpected g n s classes c.args.steps c.args.place c.hand_out.result.now) c.in-Some.ensures.state
    (subst (λ rules. AreExpected g n (state_at c.in-Some.start) classes c.args.steps c.args.place rules) (sym c.hand_out.ensures)
    (c.in-Ok.ensures.expected g classes is n meant))

pub returns-in-Err-clause-refused : goal.returns-in-Err-clause-refused
returns-in-Err-clause-refused c = λ answered text. record {
  why = c.in-Err.stop;
  told = c.stop_status.ensures.status;
  is = λ g classes is n meant.
      subst (λ s. IsRefusal g n s classes c.args.steps c.in-Err.stop) c.in-Some.ensures.state (c.in-Err.ensures.refused g classes is n meant);
}
