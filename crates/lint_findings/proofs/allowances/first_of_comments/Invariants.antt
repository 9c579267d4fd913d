use Rattle.std.proofs.Common.{◌≡◌, ◌+◌, ◌≤◌, length, map, take}
use Rattle.std.specs.List.{suffix_len}
use Rattle.lint_findings.specs.Fragments.{fragment_of}
use Rattle.lint_findings.specs.Starts.{is_comment}
use Rattle.lint_findings.proofs.allowances.first_of_comments.Given as goal

abbrev pub invariant-loop-first : goal.invariant-loop-first
invariant-loop-first l = record {
  within : l.first ≤ length l.lines;
  passed : suffix_len is_comment (map fragment_of l.lines) + l.first ≡ length l.lines + suffix_len is_comment (take l.first (map fragment_of l.lines));
}

abbrev pub decreases-loop-first : goal.decreases-loop-first
decreases-loop-first l = l.first
