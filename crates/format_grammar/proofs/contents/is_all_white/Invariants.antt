use Rattle.std.proofs.Common.{◌≡◌, length, true}
use Rattle.format_grammar.specs.Comments.{is_all_white}
use Rattle.format_grammar.proofs.contents.is_all_white.Given as goal

abbrev pub invariant-loop-byte : goal.invariant-loop-byte
invariant-loop-byte l = is_all_white l.rest ≡ true → is_all_white l.gap ≡ true

abbrev pub decreases-loop-byte : goal.decreases-loop-byte
decreases-loop-byte l = length l.rest
