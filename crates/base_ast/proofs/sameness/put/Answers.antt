use Rattle.std.proofs.Common.{arith}
use Rattle.base_ast.proofs.Pairs.{one_heavier, one_put, two_put}
use Rattle.base_ast.proofs.sameness.put.Goals as goal

pub returns-in_ok-push-in-One-clause-same : goal.returns-in_ok-push-in-One-clause-same
returns-in_ok-push-in-One-clause-same g c =
    rw c.in-One.is (one_put g.T.TreeEq.is_equal _ _ c.in-One.both c.in-One.answer c.in_ok-push-in-One.ensures.items)

pub returns-in_ok-push-in-One-clause-work : goal.returns-in_ok-push-in-One-clause-work
returns-in_ok-push-in-One-clause-work g c =
    let e = one_heavier g.T.Shaped.heaviness _ _ c.in-One.both c.in_ok-push-in-One.ensures.items in
    rw c.in-One.is (omega (arith, e))

pub returns-in_ok-push-in-Two-2-clause-same : goal.returns-in_ok-push-in-Two-2-clause-same
returns-in_ok-push-in-Two-2-clause-same g c =
    rw c.in-Two.is (two_put g.T.TreeEq.is_equal _ _ _ c.in-Two.left c.in-Two.right c.in_ok-push-in-Two.ensures.items c.in_ok-push-in-Two-2.ensures.items)

pub returns-in_ok-push-in-Two-2-clause-work : goal.returns-in_ok-push-in-Two-2-clause-work
returns-in_ok-push-in-Two-2-clause-work g c =
    let right = one_heavier g.T.Shaped.heaviness _ _ c.in-Two.right c.in_ok-push-in-Two.ensures.items in
    let left = one_heavier g.T.Shaped.heaviness _ _ c.in-Two.left c.in_ok-push-in-Two-2.ensures.items in
    rw c.in-Two.is (omega (arith, right, left))
