use Rattle.matcher_compiler.proofs.Growing.{later_twice}
use Rattle.matcher_compiler.proofs.plan.Plan.skipping.Goals as goal

pub returns-clause-later : goal.returns-clause-later
returns-clause-later c = later_twice c.args.program.now _ _ _ (c.in_ok-point.ensures.later c.args.program.now tt) (c.in_ok-demand.ensures.later c.args.program.now)

pub returns-clause-has : goal.returns-clause-has
returns-clause-has c = λ code laid m. c.in_ok-demand.ensures.met c.args.program.now code laid m
