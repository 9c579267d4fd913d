use Rattle.std.proofs.Common.{ℕ, ◌≤◌, ◌<◌, get_or, length}
use Rattle.matcher_code.proofs.ranges.are_sorted.Given as goal

abbrev pub invariant-loop-index : goal.invariant-loop-index
invariant-loop-index l = (i j : ℕ) (d : ℕ × ℕ) → i ≤ j → j < l.index → j < length l.ranges
    → ((get_or l.ranges i d).0 ≤ (get_or l.ranges j d).0) × ((get_or l.ranges i d).1 ≤ (get_or l.ranges j d).1)
