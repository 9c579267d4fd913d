-- The operands of a node.
use Rattle.std.proofs.Common.{ℕ}
use Rattle.front_stack_loops.specs.Table.{HasOrderedOperands, AreOrderedParts, parts_of}
use Rattle.front_stack_loops.specs.declared.table.NodeKind.{NodeKind}
use Rattle.front_stack_loops.specs.declared.table.NodeKind.TheVariants as is
use Rattle.front_stack_loops.specs.declared.table.Table.{Table}

pub parts_lie : (t : Table) (i : ℕ) (k : NodeKind) → HasOrderedOperands t i k → AreOrderedParts t i (parts_of k)
parts_lie t i (is.PosPred j) h = h
parts_lie t i (is.NegPred j) h = h
parts_lie t i (is.Opt j) h = h
parts_lie t i (is.Push j) h = h
parts_lie t i (is.Tag j) h = h
parts_lie t i (is.Repeat j r o e) h = h
parts_lie t i (is.Seq j k) h = h
parts_lie t i (is.Choice j k) h = h
parts_lie t i is.Still h = tt
parts_lie t i is.Leaf h = tt
parts_lie t i is.Peek h = tt
parts_lie t i is.Pop h = tt
parts_lie t i is.Drop h = tt
parts_lie t i is.PeekAll h = tt
parts_lie t i is.PopAll h = tt
parts_lie t i (is.PushLiteral b) h = tt
parts_lie t i (is.Call r) h = tt
