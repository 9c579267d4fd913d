use Rattle.std.proofs.Common.{List, ◌++◌, drop}
use Rattle.std.specs.List.{AllZip}
use Rattle.lint_findings.specs.declared.diagnostic.Diagnostic.{Diagnostic}
use Rattle.lint_diagnostics.specs.Diagnosis.{ReportsList}
use Rattle.front_spanned.specs.Nodes.{piece_of}
use Rattle.lint_diagnostics.proofs.compare_lists.Given as goal

abbrev pub invariant-loop-name : goal.invariant-loop-name
invariant-loop-name l = (more : List Diagnostic) → AllZip (λ name. ReportsList l.comparer.grammar.now (piece_of name)) (drop l.name-index l.names) more
    → AllZip (λ name. ReportsList l.comparer.grammar.now (piece_of name)) l.names (l.diagnostics.items ++ more)
