use Rattle.std.proofs.Common.{refl}
use Rattle.base_language.specs.Language.Expression.{Ident, whitespace}
use Rattle.matcher_compiler.proofs.plan.Plan.blank_calls.Goals as goal

pub returns-clause-later : goal.returns-clause-later
returns-clause-later c = c.in_ok-turns_between.ensures.later

pub returns-clause-lays : goal.returns-clause-lays
returns-clause-lays c = c.in_ok-turns_between.ensures.lays (Ident whitespace) refl c.in_ok-first_set.ensures
