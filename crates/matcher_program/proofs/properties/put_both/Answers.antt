use Rattle.std.proofs.Common.{arith}
use Rattle.matcher_program.proofs.Forming.{calls_both, heavier}
use Rattle.matcher_program.proofs.properties.put_both.Goals as goal

pub returns-clause-heft : goal.returns-clause-heft
returns-clause-heft c =
    let last = heavier _ _ c.args.right c.in_ok-push.ensures.items in
    let first = heavier _ _ c.args.left c.in_ok-push-2.ensures.items in
    omega (arith, last, first)

pub returns-clause-calls : goal.returns-clause-calls
returns-clause-calls c =
    calls_both _ _ _ c.args.left c.args.right c.in_ok-push.ensures.items c.in_ok-push-2.ensures.items
