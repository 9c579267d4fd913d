use Rattle.std.proofs.Common.{refl}
use Rattle.matcher_compiler.specs.Plans.{one_comment}
use Rattle.matcher_compiler.proofs.plan.Plan.comment_turns.Goals as goal

pub returns-clause-later : goal.returns-clause-later
returns-clause-later c = c.in_ok-turns_between.ensures.later

pub returns-clause-lays : goal.returns-clause-lays
returns-clause-lays c = c.in_ok-turns_between.ensures.lays one_comment refl c.in_ok-first_set.ensures
