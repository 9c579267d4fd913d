use Rattle.std.proofs.Common.{◌≡◌, ℕ, ◌<◌, Some, false, slice_get}
use Rattle.base_graphs.specs.Least.{is_set_at}
use Rattle.front_stack_loops.proofs.reportable.is_some_root_set.Given as goal

abbrev pub invariant-loop-rule : goal.invariant-loop-rule
invariant-loop-rule l = (r i : ℕ) → r < l.rule → slice_get l.roots r ≡ Some i → is_set_at l.flags i ≡ false
