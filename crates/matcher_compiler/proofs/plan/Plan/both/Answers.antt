use Rattle.std.proofs.Common.{refl}
use Rattle.matcher_compiler.proofs.plan.Plan.both.Goals as goal

pub returns-clause-lays : goal.returns-clause-lays
returns-clause-lays c = c.in_ok-sequence.ensures.lays _ _ refl refl
