use Rattle.std.proofs.Common.{◌≡◌, ◌<◌, ◌≤◌, ℕ, Some, slice_get}
use Rattle.front_validator.specs.Levels.{IsSettled}
use Rattle.front_analysis.specs.declared.kind_table.NodeKind.{NodeKind}
use Rattle.front_validator.proofs.passing.are_settled.Given as goal

abbrev pub invariant-loop-node : goal.invariant-loop-node
invariant-loop-node l = (i : ℕ) → l.first ≤ i → i < l.node → (k : NodeKind) → slice_get l.facts.table.kinds.items i ≡ Some k → IsSettled l.facts l.levels l.rule l.root k
