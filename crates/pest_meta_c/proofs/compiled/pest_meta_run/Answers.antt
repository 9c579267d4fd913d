use Rattle.std.proofs.Common.{length, subst, sym}
use Rattle.matcher_engine.specs.Blocks.{operations_in}
use Rattle.matcher_engine.specs.BlockRuns.{IsOutcome}
use Rattle.matcher_engine.specs.Limits.{IsAmple, steps_of, turns_of}
use Rattle.matcher_program.specs.Answers.{HasAt}
use Rattle.pest_meta_c.specs.Compiled.{limit_in, state_from}
use Rattle.pest_meta_c.proofs.Statuses.{stopped_by_limit}
use Rattle.pest_meta_c.proofs.compiled.pest_meta_run.Goals as goal

pub returns-clause-told : goal.returns-clause-told
returns-clause-told c = λ h. record {
  outcome = c.run_block-outcome.result;
  told = c.tell_match.ensures.told;
  is = λ g classes is n meant.
      subst (λ l. IsOutcome g n (state_from c.args.text.now c.args.from) classes (steps_of l) c.run_block-outcome.result) c.limit_in.ensures
      (subst (λ s. IsOutcome g n s classes (steps_of c.limit_in.result) c.run_block-outcome.result) c.in-Some.ensures.state (c.run_block-outcome.ensures.outcome g classes is n meant));
}

pub returns-clause-answered : goal.returns-clause-answered
returns-clause-answered c = λ g classes is n meant ample o d e.
    let here = subst (λ l. IsAmple g (operations_in c.args.block.now) (length c.args.text.now) (turns_of l)) (sym c.limit_in.ensures) ample in
    let there = subst (λ t. IsAmple g (operations_in c.args.block.now) (length t) (turns_of c.limit_in.result)) (sym c.in-Some.ensures.text) here in
    let found = subst (λ s. HasAt g n s classes o) (sym c.in-Some.ensures.state) d in
    c.run_block-outcome.ensures.answered g classes is n meant there o found
    (stopped_by_limit c.run_block-outcome.result _ _ _ c.tell_match.ensures.told e)
