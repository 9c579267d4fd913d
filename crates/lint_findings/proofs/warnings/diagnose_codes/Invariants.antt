use Rattle.std.proofs.Common.{take}
use Rattle.std.specs.List.{AllZip}
use Rattle.std.specs.Prelude.{flat_map}
use Rattle.lint_findings.specs.Codes.{warnings_with}
use Rattle.lint_findings.specs.Reports.{ReportsWarning}
use Rattle.front_spanned.specs.Nodes.{rule_views}
use Rattle.lint_warnings.specs.Lists.{texts_of}
use Rattle.lint_findings.proofs.warnings.diagnose_codes.Given as goal

abbrev pub invariant-loop-code : goal.invariant-loop-code
invariant-loop-code l = AllZip ReportsWarning (flat_map (warnings_with (texts_of l.starts) (rule_views l.rules)) (take l.code-index l.codes)) l.diagnostics.items
