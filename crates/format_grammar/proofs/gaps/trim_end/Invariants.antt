use Rattle.std.proofs.Common.{◌≡◌, ◌<◌, ◌≤◌, ℕ, get_or, true}
use Rattle.format_grammar.specs.Comments.{is_blank}
use Rattle.format_grammar.proofs.gaps.trim_end.Given as goal

abbrev pub invariant-loop-trimmed : goal.invariant-loop-trimmed
invariant-loop-trimmed l = record {
  within : l.start ≤ l.end → l.start ≤ l.trimmed;
  bound : l.trimmed ≤ l.end;
  blanks : (k : ℕ) → l.trimmed ≤ k → k < l.end → is_blank (get_or l.bytes k 0) ≡ true;
}

abbrev pub decreases-loop-trimmed : goal.decreases-loop-trimmed
decreases-loop-trimmed l = l.trimmed
