use Rattle.std.proofs.Common.{◌≡◌, ◌&&◌, ap, ap₂, ◌∙◌}
use Rattle.base_ast.specs.Sameness.{are_both, are_equal, is_same}
use Rattle.base_ast.proofs.Pairs.{remain}
use Rattle.base_ast.proofs.sameness.same_iteratively.Goals as goal

pub both-preserved : goal.both-preserved
both-preserved g c =
    let e = g.T.TreeEq.is_equal in
    let others = c.pop.new.self.items in
    let same : is_same e c.compare_roots-inside.result ≡ are_both e c.in-Some.both = c.compare_roots-inside.ensures.same ∙ ap₂ e c.deref.ensures c.deref-in-both.ensures in
    remain e _ c.both.is_equal c.in_ok-is_equal-2.is_equal c.both.others.items others c.put-in-both.new.others.items c.in-Some.both c.both.invariant c.both-test.true c.in-Some.ensures.items (c.in_ok-is_equal-2.ensures.same ∙ ap (λ b. b && are_equal e others) same)
