use Rattle.std.proofs.Common.{[], ◌∷◌, append_assoc, append-nil}
use Rattle.lint_findings.specs.Codes.{warning}
use Rattle.lint_findings.specs.Reports.{ReportsWarning}
use Rattle.front_spanned.specs.Nodes.{piece_of}
use Rattle.lint_findings.proofs.Zips.{zip_end, zip_next}
use Rattle.lint_findings.proofs.warnings.report_spans.Goals as goal

pub loop-span-preserved : goal.loop-span-preserved
loop-span-preserved c = λ more each.
    rw (c.in_ok-push.ensures.items, append_assoc) (c.loop-span.invariant (c.in_ok-diagnostic.diagnostic ∷ more)
    (zip_next (λ span. ReportsWarning (warning c.args.code (piece_of span))) c.args.spans.now c.loop-span.span-index c.span-item.result _ more c.span-item.is c.loop-span-test.true c.in_ok-diagnostic.ensures each))

pub returns : goal.returns
returns c = rw append-nil at (c.loop-span.invariant [] (zip_end (λ span. ReportsWarning (warning c.args.code (piece_of span))) c.args.spans.now c.loop-span.span-index c.loop-span-test.false))
