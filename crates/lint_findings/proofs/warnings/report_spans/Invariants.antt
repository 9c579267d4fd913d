use Rattle.std.proofs.Common.{List, ◌++◌, drop}
use Rattle.std.specs.List.{AllZip}
use Rattle.lint_findings.specs.Codes.{warning}
use Rattle.lint_findings.specs.Reports.{ReportsWarning}
use Rattle.lint_findings.specs.declared.diagnostic.Diagnostic.{Diagnostic}
use Rattle.front_spanned.specs.Nodes.{piece_of}
use Rattle.lint_findings.proofs.warnings.report_spans.Given as goal

abbrev pub invariant-loop-span : goal.invariant-loop-span
invariant-loop-span l = (more : List Diagnostic) → AllZip (λ span. ReportsWarning (warning l.code (piece_of span))) (drop l.span-index l.spans) more
    → AllZip (λ span. ReportsWarning (warning l.code (piece_of span))) l.spans (l.diagnostics.items ++ more)
