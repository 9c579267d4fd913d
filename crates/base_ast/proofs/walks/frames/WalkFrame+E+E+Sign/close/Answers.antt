use Rattle.std.proofs.Common.{refl, ◌∙◌}
use Rattle.base_ast.specs.Frames.{enclosed, put_together, turned}
use Rattle.base_ast.proofs.walks.frames.WalkFrame+E+E+Sign.close.Goals as goal

pub returns-in-Around-clause-closes : goal.returns-in-Around-clause-closes
returns-in-Around-clause-closes g c = rw c.in-Around.is (enclosed (rw c.fill.ensures at c.enclose.ensures) refl)

pub returns-in-After-clause-closes : goal.returns-in-After-clause-closes
returns-in-After-clause-closes g c = rw c.in-After.is (put_together (rw c.fill-in-After.ensures at c.join.ensures) refl)

pub returns-in_ok-keep-in-Before-clause-closes : goal.returns-in_ok-keep-in-Before-clause-closes
returns-in_ok-keep-in-Before-clause-closes g c =
    rw c.in-Before.is (turned _ _ c.fill-in-Before.ensures (c.into_inner.ensures ∙ c.take.ensures) c.in_ok-keep-in-Before.ensures.kept)
