use Rattle.std.proofs.Common.{◌≡◌, ◌+◌, ◌%◌, ◌<◌, ◌≤◌, ℕ, get_or, length}
use Rattle.matcher_code.specs.Within.{IsAround, no_closings}
use Rattle.matcher_code.proofs.comments.closings_from.Given as goal

abbrev pub invariant-loop-at : goal.invariant-loop-at
invariant-loop-at l = record {
  above : l.from ≤ l.at;
  long : length l.behind ≡ 256;
  known : (k : ℕ) → l.at ≤ k → k < l.at + 256 → k ≤ length l.text
      → IsAround l.opening l.closing l.text l.number k (get_or l.behind (k % 256) no_closings);
}
