use Rattle.std.proofs.Common.{◌≡◌, ◌≤◌, drop, length, ◌++◌, ◌∷◌, [], reverse}
use Rattle.format_grammar.specs.Comments.{trimmed, marked, first, closings, closings_of_rest, begins_with_line_feed}
use Rattle.format_grammar.proofs.contents.mark_lines.Given as goal

abbrev pub invariant-loop-left : goal.invariant-loop-left
invariant-loop-left l = record {
  within : l.left ≤ length l.gap;
  marked : reverse l.marks.items ≡ marked (trimmed (drop l.left l.gap ++ 10 ∷ []));
  at_end : l.is_at_end ≡ begins_with_line_feed (trimmed (drop l.left l.gap ++ 10 ∷ []));
  first : l.first ≡ first (trimmed (drop l.left l.gap ++ 10 ∷ []));
  closings : l.closings ≡ closings (trimmed (drop l.left l.gap ++ 10 ∷ []));
  rest : l.second_on ≡ closings_of_rest (trimmed (drop l.left l.gap ++ 10 ∷ []));
}

abbrev pub decreases-loop-left : goal.decreases-loop-left
decreases-loop-left l = l.left
