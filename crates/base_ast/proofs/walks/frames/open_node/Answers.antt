use Rattle.std.proofs.Common.{refl}
use Rattle.base_ast.specs.Frames.{leaf, one, two}
use Rattle.base_ast.proofs.walks.frames.open_node.Goals as goal

pub returns-in-Leaf-clause-opens : goal.returns-in-Leaf-clause-opens
returns-in-Leaf-clause-opens g c = leaf c.in-Leaf.ensures.0 c.in-Leaf.ensures.1 refl

pub returns-in_ok-keep-in-One-clause-opens : goal.returns-in_ok-keep-in-One-clause-opens
returns-in_ok-keep-in-One-clause-opens g c =
    rw (c.into_inner.ensures, c.take.ensures) (one c.in-One.sign _ c.in-One.ensures c.in_ok-keep-in-One.ensures.kept)

pub returns-in_ok-keep-in-Two-clause-opens : goal.returns-in_ok-keep-in-Two-clause-opens
returns-in_ok-keep-in-Two-clause-opens g c =
    rw (c.into_inner-in-Two.ensures, c.take-in-Two.ensures) (two c.in-Two.joint _ c.in-Two.right c.in-Two.ensures c.in_ok-keep-in-Two.ensures.kept)
