use Rattle.std.proofs.Common.{◌≡◌, ◌<◌, ℕ, Some, true, slice_get}
use Rattle.base_graphs.specs.Least.{is_set_at}
use Rattle.front_stack_loops.specs.Apart.{apart_kind}
use Rattle.front_stack_loops.specs.Table.{nodes_of}
use Rattle.front_stack_loops.specs.declared.table.PassNode.{PassNode}
use Rattle.front_stack_loops.proofs.apart.all_apart.Given as goal

abbrev pub invariant-loop-node : goal.invariant-loop-node
invariant-loop-node l = (i : ℕ) (n : PassNode) → i < l.node → slice_get (nodes_of l.table) i ≡ Some n → is_set_at l.flags i ≡ true
    → apart_kind l.table (is_set_at l.flags) n.kind ≡ true
