-- The diagnostics of a grammar's text as lines.
use Rattle.std.specs.Prelude.{◌≡◌, ℕ, List, [], ◌∷◌, ◌++◌, false}
use Rattle.std.specs.List.{AllZip, list_any}
use Rattle.lint_findings.specs.Reports.{is_error}
use Rattle.lint_findings.specs.declared.diagnostic.Diagnostic.{Diagnostic}
use Rattle.lint_output.specs.Prints.{IsPrinted}
use Rattle.lint_output.specs.declared.Style.TheVariants as style
use Rattle.lint_diagnostics.specs.Diagnosis.{IsDiagnosis}
use Rattle.pest_meta.specs.Spelling.{HasAnswer}

-- all of these, one after another
abbrev pub joined : List (List ℕ) → List ℕ
joined [] = []
joined (line ∷ lines) = line ++ joined lines

-- all diagnostics are printed as lines of JSON, in order
abbrev pub ArePrinted : List Diagnostic → List ℕ → Type 0
ArePrinted diagnostics bytes = (lines : List (List ℕ))
    × AllZip (IsPrinted style.Json) diagnostics lines × (bytes ≡ joined lines)

-- the bytes print the diagnostics of a grammar's text, which is accepted if none is an error
pub record AreDiagnostics (text bytes : List ℕ) : Type 0 where
  pub diagnostics : List Diagnostic
  pub diagnosis : IsDiagnosis [] text diagnostics
  pub accepted : list_any is_error diagnostics ≡ false → HasAnswer text
  pub printed : ArePrinted diagnostics bytes
