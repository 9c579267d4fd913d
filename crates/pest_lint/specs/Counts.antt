-- Counts of errors and warnings, and the line of both.
use Rattle.std.specs.Prelude.{ℕ, ◌+◌, ◌-◌, ◌^◌, ◌==◌, List, [], ◌++◌, codes, if◌then◌else◌, min}
use Rattle.std.specs.Fmt.{decimal}
use Rattle.lint_findings.specs.declared.codes.Severity.{Severity}
use Rattle.lint_findings.specs.declared.codes.Severity.TheVariants as severity
use Rattle.lint_findings.specs.declared.diagnostic.Diagnostic.{Diagnostic}
use Rattle.pest_lint.specs.declared.counts.Counts.{Counts}

-- one of a severity more, up to the greatest number
abbrev pub counts_of : Counts → Severity → Counts
counts_of n severity.Error = record n { errors = min (n.errors + 1) (2 ^ 64 - 1) }
counts_of n severity.Warning = record n { warnings = min (n.warnings + 1) (2 ^ 64 - 1) }

abbrev pub counts_after : Counts → Diagnostic → Counts
counts_after n d = counts_of n d.severity

-- a number of things, with an `s` behind their name but for one
abbrev pub count_text : ℕ → List ℕ → List ℕ
count_text n name =
    if n == 1 then codes "1 " ++ name else decimal n ++ (codes " " ++ (name ++ codes "s"))

abbrev pub errors_text : Counts → List ℕ
errors_text n = count_text n.errors (codes "error")

abbrev pub warnings_text : Counts → List ℕ
warnings_text n = count_text n.warnings (codes "warning")

-- the line of both, without what there is none of; nothing if there is neither
abbrev pub counts_line : Counts → List ℕ
counts_line n =
    if n.warnings == 0 then (if n.errors == 0 then [] else errors_text n ++ codes "\n")
    else (if n.errors == 0 then warnings_text n ++ codes "\n"
    else errors_text n ++ (codes ", " ++ (warnings_text n ++ codes "\n")))
