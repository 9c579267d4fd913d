use Rattle.std.proofs.Common.{List, ℕ, take}
use Rattle.std.specs.List.{AllZip}
use Rattle.lint_findings.specs.Codes.{warning}
use Rattle.lint_findings.specs.Fragments.{fragment_of}
use Rattle.lint_findings.specs.Reports.{ReportsWarning}
use Rattle.lint_findings.specs.Starts.{place_of}
use Rattle.lint_findings.specs.declared.codes.Code.TheVariants as code
use Rattle.lint_findings.proofs.strays.warn_of.Given as goal

abbrev pub invariant-loop-stray : goal.invariant-loop-stray
invariant-loop-stray l = (text : List ℕ) → AllZip (λ s d. ReportsWarning (warning code.UnknownStart (place_of text (fragment_of s))) d) (take l.stray-index l.strays) l.warnings.items
