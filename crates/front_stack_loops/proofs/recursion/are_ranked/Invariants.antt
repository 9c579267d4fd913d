use Rattle.std.proofs.Common.{◌≡◌, ℕ, ◌<◌, Some, slice_get}
use Rattle.front_stack_loops.specs.Leading.{IsRanked}
use Rattle.front_stack_loops.specs.declared.table.PassNode.{PassNode}
use Rattle.front_stack_loops.proofs.recursion.are_ranked.Given as goal

abbrev pub invariant-loop-place : goal.invariant-loop-place
invariant-loop-place l = (i : ℕ) (n : PassNode) → i < l.place → slice_get l.nodes i ≡ Some n → IsRanked l.roots l.recursive l.ranks i n
