use Rattle.std.proofs.Common.{inl, subst}
use Rattle.std.specs.Prelude.{chars}
use Rattle.base_language.specs.Language.State.{Failure as Failed}
use Rattle.matcher_engine.specs.BlockRuns.{IsStopped}
use Rattle.matcher_program.specs.Answers.{start_of}
use Rattle.matcher_program.specs.declared.answers.Stop.{Stop}
use Rattle.matcher_support.specs.Sets.{is_in_property}
use Rattle.pest_run.proofs.explanations.stop_explanation.Goals as goal

pub returns-in-Ok : goal.returns-in-Ok
returns-in-Ok c = λ g rule text format taken.
    let P : Stop → Type 0 = λ s. IsStopped g (chars rule) (start_of text) is_in_property c.args.steps s in
    (subst P c.in-OutOfSteps.is taken, c.in-Ok.ensures)

pub returns-in-EmptyStack : goal.returns-in-EmptyStack
returns-in-EmptyStack c = λ g rule text format none.
    let P : Stop → Type 0 = λ s. IsStopped g (chars rule) (start_of text) is_in_property c.args.steps s in
    inl (λ failed. (subst P c.in-EmptyStack.is none).0 Failed failed)
