use Rattle.matcher_code.specs.Lists.{lists_of}
use Rattle.matcher_compiler.proofs.Finishing.{code_of, none_bound}
use Rattle.matcher_compiler.proofs.compile.compile_with.Goals as goal

pub returns-then-branch-clause-is : goal.returns-then-branch-clause-is
returns-then-branch-clause-is c =
    let p = c.args.program.now in
    code_of p _ (lists_of c.in_ok-code.code) c.in_ok-code.ensures.ends (c.in_ok-code.ensures.meets p) c.in_ok-plan-2.ensures.lays
    (λ code laid m i h. c.in_ok-plan_entries.ensures.has code laid (c.in_ok-plan-2.ensures.later.met code laid m) i h)

pub plan-requires-clause-ready : goal.plan-requires-clause-ready
plan-requires-clause-ready c =
    c.in_ok-plan_entries.ensures.later.ready ((c.in_ok-plan_ends.ensures c.args.program.now).ready c.in_ok-plan.ensures.ready)

pub plan-requires-clause-bound : goal.plan-requires-clause-bound
plan-requires-clause-bound c =
    c.in_ok-plan_entries.ensures.later.bound ((c.in_ok-plan_ends.ensures c.args.program.now).bound (none_bound c.args.program.now c.in_ok-plan.plan c.in_ok-plan.ensures.empty))
