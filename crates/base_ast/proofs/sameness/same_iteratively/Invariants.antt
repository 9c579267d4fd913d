use Rattle.std.proofs.Common.{◌≡◌, ◌&&◌}
use Rattle.base_ast.specs.Sameness.{are_equal, heaviness_of_all, is_same}
use Rattle.base_ast.proofs.sameness.same_iteratively.Given as goal

abbrev pub invariant-both : goal.invariant-both
invariant-both g l =
    (l.is_equal && are_equal g.T.TreeEq.is_equal l.others.items) ≡ is_same g.T.TreeEq.is_equal l.left

abbrev pub decreases-both : goal.decreases-both
decreases-both g l = heaviness_of_all g.T.Shaped.heaviness l.others.items
