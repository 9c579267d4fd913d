use Rattle.std.proofs.Common.{refl}
use Rattle.std.proofs.lemmas.Result.{on_ok_weaker}
use Rattle.matcher_compiler.proofs.plan.Plan.once_and_turns.Goals as goal

pub returns-then-is_small_twice-clause-lays : goal.returns-then-is_small_twice-clause-lays
returns-then-is_small_twice-clause-lays c = on_ok_weaker c.sequence.result (λ lays. lays _ _ refl refl) c.sequence.ensures.lays
