use Rattle.std.proofs.Common.{◌≡◌, ◌≤◌, drop, length, false}
use Rattle.format_grammar.specs.Comments.{has_blank_end, begins_with_line_feed}
use Rattle.format_grammar.proofs.contents.has_blank_end.Given as goal

abbrev pub invariant-loop-left : goal.invariant-loop-left
invariant-loop-left l = record {
  within : l.left ≤ length l.text;
  none : has_blank_end (drop l.left l.text) ≡ false;
  at_end : l.is_at_end ≡ begins_with_line_feed (drop l.left l.text);
}

abbrev pub decreases-loop-left : goal.decreases-loop-left
decreases-loop-left l = l.left
