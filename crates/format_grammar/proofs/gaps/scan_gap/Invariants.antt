use Rattle.std.proofs.Common.{◌≤◌}
use Rattle.format_grammar.specs.Gaps.{AreComments, HasNone}
use Rattle.format_grammar.proofs.gaps.scan_gap.Given as goal

abbrev pub invariant-loop-start : goal.invariant-loop-start
invariant-loop-start l = record {
  bound : l.from ≤ l.end → l.next ≤ l.end;
  comments : l.from ≤ l.end → AreComments l.bytes l.from l.gap.comments.items l.next;
  none : HasNone l.bytes l.next l.start;
}
