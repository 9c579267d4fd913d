use Rattle.std.proofs.Common.{◌∙◌, ◌+◌, drop, map, sym}
use Rattle.lint_findings.specs.Fragments.{fragment_of}
use Rattle.lint_findings.proofs.Placing.{first_comment-found, first_comment-next, next_line}
use Rattle.lint_findings.proofs.starts.start_comment.Goals as goal

pub returns-then-has_starts-clause-first : goal.returns-then-has_starts-clause-first
returns-then-has_starts-clause-first c =
    sym (first_comment-found (fragment_of c.line-item.result) (map fragment_of (drop (c.loop-line.line-index + 1) c.args.lines.now)) (sym c.has_starts.ensures ∙ c.if-has_starts.true))
    ∙ next_line c.args.lines.now c.loop-line.line-index c.line-item.result c.loop-line-test.true c.line-item.is c.loop-line.invariant

pub loop-line-preserved : goal.loop-line-preserved
loop-line-preserved c =
    sym (first_comment-next (fragment_of c.line-item.result) (map fragment_of (drop (c.loop-line.line-index + 1) c.args.lines.now)) (sym c.has_starts.ensures ∙ c.if-has_starts.false))
    ∙ next_line c.args.lines.now c.loop-line.line-index c.line-item.result c.loop-line-test.true c.line-item.is c.loop-line.invariant
