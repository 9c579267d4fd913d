use Rattle.std.proofs.Common.{◌≡◌, ◌++◌, reverse, vec_len}
use Rattle.format_grammar.specs.Comments.{kept_from, comments_of}
use Rattle.format_grammar.proofs.contents.comments_of.Given as goal

abbrev pub invariant-loop-byte : goal.invariant-loop-byte
invariant-loop-byte l = l.kept.items ++ kept_from l.place (reverse l.marks.items) ≡ comments_of l.gap

abbrev pub decreases-loop-byte : goal.decreases-loop-byte
decreases-loop-byte l = vec_len l.marks
