use Rattle.std.proofs.Common.{◌≡◌, drop, find, map}
use Rattle.lint_findings.specs.Fragments.{fragment_of}
use Rattle.lint_findings.specs.Starts.{has_starts}
use Rattle.lint_findings.proofs.starts.start_comment.Given as goal

-- the comment is that of the lines left
abbrev pub invariant-loop-line : goal.invariant-loop-line
invariant-loop-line l =
    find has_starts (map fragment_of (drop l.line-index l.lines)) ≡ find has_starts (map fragment_of l.lines)
