use Rattle.std.proofs.Common.{take}
use Rattle.std.specs.List.{AllZip}
use Rattle.lint_findings.specs.Reports.{ReportsWarning}
use Rattle.lint_findings.specs.declared.codes.Code.TheVariants as code
use Rattle.lint_findings.proofs.Telling.{all_told}
use Rattle.lint_findings.proofs.choices.diagnose_choices.Given as goal

abbrev pub invariant-loop-choice : goal.invariant-loop-choice
invariant-loop-choice l = AllZip ReportsWarning (all_told code.Unreachable (take l.choice-index l.choice-items)) l.diagnostics.items
