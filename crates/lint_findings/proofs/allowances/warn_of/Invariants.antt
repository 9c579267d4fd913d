use Rattle.std.proofs.Common.{List, ◌++◌, drop}
use Rattle.std.specs.List.{AllZip}
use Rattle.lint_findings.specs.Allowances.{WarnsOf}
use Rattle.lint_findings.specs.declared.diagnostic.Diagnostic.{Diagnostic}
use Rattle.lint_findings.proofs.allowances.warn_of.Given as goal

abbrev pub invariant-loop-allowance : goal.invariant-loop-allowance
invariant-loop-allowance l = (more : List Diagnostic) → AllZip WarnsOf (drop l.allowance-index l.allowances) more
    → AllZip WarnsOf l.allowances (l.warnings.items ++ more)
