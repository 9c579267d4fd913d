use Rattle.lint_findings.specs.Reports.{ReportsWarning}
use Rattle.lint_findings.proofs.Zips.{zip_both}
use Rattle.lint_findings.proofs.warnings.add_code.Goals as goal

pub returns : goal.returns
returns c = λ earlier h.
    rw c.in_ok-append.ensures.items (zip_both ReportsWarning earlier _ _ _ h c.in_ok-others.ensures)
