use Rattle.std.proofs.Common.{◌≡◌, ◌<◌, ℕ, Some, slice_get}
use Rattle.front_validator.specs.Levels.{Rests}
use Rattle.front_analysis.specs.declared.kind_table.NodeKind.{NodeKind}
use Rattle.front_validator.proofs.levels.all_rest.Given as goal

abbrev pub invariant-loop-node : goal.invariant-loop-node
invariant-loop-node l = (i : ℕ) → i < l.node → (k : NodeKind) → slice_get l.facts.table.kinds.items i ≡ Some k → Rests l.facts l.levels i k
