use Rattle.std.proofs.Common.{List, ◌++◌, drop}
use Rattle.std.specs.List.{AllZip}
use Rattle.lint_findings.specs.Reports.{ReportsRuleFinding}
use Rattle.lint_findings.specs.declared.diagnostic.Diagnostic.{Diagnostic}
use Rattle.lint_findings.proofs.errors.diagnose_findings.Given as goal

abbrev pub invariant-loop-finding : goal.invariant-loop-finding
invariant-loop-finding l = (more : List Diagnostic) → AllZip ReportsRuleFinding (drop l.finding-index l.findings) more
    → AllZip ReportsRuleFinding l.findings (l.diagnostics.items ++ more)
