use Rattle.matcher_code.specs.Laid as lay
use Rattle.matcher_compiler.proofs.plan.Plan.restore.Goals as goal

pub returns-clause-later : goal.returns-clause-later
returns-clause-later c = c.in_ok-point.ensures.later c.args.program.now c.requires.bound

pub returns-clause-lays : goal.returns-clause-lays
returns-clause-lays c = λ classes fits code laid m. lay.restore (c.in_ok-point.ensures.has c.args.program.now code laid m)
