use Rattle.std.proofs.Common.{◌≡◌, ◌≤◌, drop, length, ◌++◌, ◌∷◌, [], reverse}
use Rattle.format_grammar.specs.Comments.{trimmed, begins_with_line_feed}
use Rattle.format_grammar.proofs.contents.trim_lines.Given as goal

abbrev pub invariant-loop-left : goal.invariant-loop-left
invariant-loop-left l = record {
  within : l.left ≤ length l.text;
  trimmed : reverse l.bytes.items ≡ trimmed (drop l.left l.text ++ 10 ∷ []);
  at_end : l.is_at_end ≡ begins_with_line_feed (reverse l.bytes.items);
}

abbrev pub decreases-loop-left : goal.decreases-loop-left
decreases-loop-left l = l.left
