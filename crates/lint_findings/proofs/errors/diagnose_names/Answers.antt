use Rattle.std.proofs.Common.{[], ◌∷◌, append_assoc, append-nil}
use Rattle.lint_findings.specs.Reports.{ReportsNameFinding}
use Rattle.lint_findings.proofs.Zips.{zip_end, zip_next}
use Rattle.lint_findings.proofs.errors.diagnose_names.Goals as goal

pub loop-finding-preserved : goal.loop-finding-preserved
loop-finding-preserved c = λ more each.
    rw (c.in_ok-push.ensures.items, append_assoc) (c.loop-finding.invariant (c.in_ok-diagnostic.diagnostic ∷ more)
    (zip_next ReportsNameFinding c.args.findings.now c.loop-finding.finding-index c.finding-item.result _ more c.finding-item.is c.loop-finding-test.true c.in_ok-diagnostic.ensures each))

pub returns : goal.returns
returns c = rw append-nil at (c.loop-finding.invariant [] (zip_end ReportsNameFinding c.args.findings.now c.loop-finding.finding-index c.loop-finding-test.false))
