use Rattle.std.proofs.Common.{subst}
use Rattle.front_stack_loops.specs.Reportable.{AreLoopFlags}
use Rattle.front_stack_loops.specs.declared.facts.Question.TheVariants as asks
use Rattle.front_stack_loops.proofs.FlagLemmas.{sound_answers}
use Rattle.front_stack_loops.proofs.Work.{where_ok}
use Rattle.front_stack_loops.proofs.reportable.reportable_nodes.Goals as goal

pub returns : goal.returns
returns c =
    let ns = c.args.nodes.now in
    let roots = c.args.roots.now in
    let still = c.in_ok-still.still.items in
    where_ok c.with_loops.result (λ v told. record {
      still = still;
      answers = sound_answers asks.MayBeStill ns roots still c.in_ok-still.ensures.sound c.in_ok-still.ensures.closed;
      told = subst (λ z. AreLoopFlags ns z v.items) c.as_slice.ensures.value told;
    }) c.with_loops.ensures
