use Rattle.std.proofs.Common.{arith}
use Rattle.matcher_compiler.proofs.Heft.{counts, heavier, stack_both}
use Rattle.matcher_compiler.proofs.extent.put_both.Goals as goal

pub returns-clause-heft : goal.returns-clause-heft
returns-clause-heft c =
    let first = heavier _ _ c.args.right c.in_ok-push.ensures.items in
    let last = heavier _ _ c.args.left c.in_ok-push-2.ensures.items in
    omega (arith, first, last)

pub returns-clause-count : goal.returns-clause-count
returns-clause-count c =
    let first = counts _ _ c.args.right c.in_ok-push.ensures.items in
    let last = counts _ _ c.args.left c.in_ok-push-2.ensures.items in
    omega (arith, first, last)

pub returns-clause-stack : goal.returns-clause-stack
returns-clause-stack c = stack_both _ _ _ c.args.left c.args.right c.in_ok-push.ensures.items c.in_ok-push-2.ensures.items
