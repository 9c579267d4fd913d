use Rattle.std.proofs.Common.{◌+◌, ◌-◌, ◌≤◌, length}
use Rattle.matcher_code.proofs.CommentPositions.{IsPassed}
use Rattle.matcher_code.proofs.comments.skip_closed.Given as goal

abbrev pub invariant-loop-at : goal.invariant-loop-at
invariant-loop-at l = record {
  passed : IsPassed l.opening l.closing l.text l.from l.depth l.at;
  behind : l.from + l.depth ≤ l.at;
}

abbrev pub decreases-loop-at : goal.decreases-loop-at
decreases-loop-at l = length l.text - l.at
