use Rattle.std.proofs.Common.{refl}
use Rattle.matcher_compiler.proofs.plan.Plan.ahead.Goals as goal

pub returns-clause-lays : goal.returns-clause-lays
returns-clause-lays c = c.in_ok-lookahead.ensures.positive refl refl
