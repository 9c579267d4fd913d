use Rattle.std.proofs.Common.{◌≡◌, ◌+◌, ◌-◌, ◌<◌, ◌≤◌, ℕ, length, vec_len}
use Rattle.base_graphs.specs.Least.{is_set_at}
use Rattle.front_validator.proofs.passing.add_flags.Given as goal

abbrev pub invariant-loop-to : goal.invariant-loop-to
invariant-loop-to l = record {
  grown : length l.fn.to.items ≤ length l.to.items;
  within : length l.fn.to.items ≤ l.last + 1 → length l.to.items ≤ l.last + 1;
  kept : (i : ℕ) → i < length l.fn.to.items → is_set_at l.to.items i ≡ is_set_at l.fn.to.items i;
  copied : (i : ℕ) → length l.fn.to.items ≤ i → i < length l.to.items → is_set_at l.to.items i ≡ is_set_at l.from i;
}

abbrev pub decreases-loop-to : goal.decreases-loop-to
decreases-loop-to l = (l.last + 1) - vec_len l.to
