use Rattle.matcher_compiler.proofs.plan.Plan.operation.Goals as goal

pub returns-clause-later : goal.returns-clause-later
returns-clause-later c = c.demand.ensures.later

pub returns-clause-met : goal.returns-clause-met
returns-clause-met c = c.demand.ensures.met
