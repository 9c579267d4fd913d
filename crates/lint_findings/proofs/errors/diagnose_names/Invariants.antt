use Rattle.std.proofs.Common.{List, ◌++◌, drop}
use Rattle.std.specs.List.{AllZip}
use Rattle.lint_findings.specs.Reports.{ReportsNameFinding}
use Rattle.lint_findings.specs.declared.diagnostic.Diagnostic.{Diagnostic}
use Rattle.lint_findings.proofs.errors.diagnose_names.Given as goal

abbrev pub invariant-loop-finding : goal.invariant-loop-finding
invariant-loop-finding l = (more : List Diagnostic) → AllZip ReportsNameFinding (drop l.finding-index l.findings) more
    → AllZip ReportsNameFinding l.findings (l.diagnostics.items ++ more)
