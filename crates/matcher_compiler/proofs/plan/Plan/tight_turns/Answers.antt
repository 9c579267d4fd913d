use Rattle.base_language.specs.Language.Expression.{Rep}
use Rattle.base_language.specs.Language.Meaning.{Run}
use Rattle.matcher_sets.specs.Forms.{said}
use Rattle.matcher_sets.specs.Modes.{mode_of}
use Rattle.matcher_compiler.proofs.plan.Plan.tight_turns.Goals as goal

pub returns-in_ok-span-in-Some-clause-lays : goal.returns-in_ok-span-in-Some-clause-lays
returns-in_ok-span-in-Some-clause-lays c =
    let p = c.args.program.now in
    c.in_ok-span-in-Some.ensures.lays p (Run (mode_of c.args.at.mode) (Rep (said p c.args.body.now))) (rw c.in-Some.is at c.in_ok-made.ensures)
