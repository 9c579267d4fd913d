use Rattle.std.proofs.Common.{subst}
use Rattle.matcher_engine.specs.declared.block.runs.BlockStop.{BlockStop}
use Rattle.matcher_support.specs.Compiled.{IsUnanswered}
use Rattle.pest_run.proofs.explanations.refusal_explanation.Goals as goal

pub returns-in-Stopped : goal.returns-in-Stopped
returns-in-Stopped c = λ g rule text format h.
    let P : BlockStop → Type 0 = λ s. IsUnanswered g rule text c.args.steps s in
    c.stop_explanation.ensures g rule text format (subst P c.in-Stopped.is h)
