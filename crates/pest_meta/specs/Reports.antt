-- Printed faults.
use Rattle.std.specs.Prelude.{◌≡◌, ℕ, List, [], ◌∷◌, ◌++◌, codes, string_bytes, ⊤}
use Rattle.std.specs.List.{join_by}
use Rattle.base_language.specs.Pieces.PrintedError.{error_text}
use Rattle.base_language.specs.declared.grammar.Rule.{Rule}
use Rattle.base_language.specs.declared.runtime.errors.Error.{Error}
use Rattle.base_language.specs.declared.runtime.faults.Fault.{Fault}
use Rattle.base_language.specs.declared.runtime.faults.Fault.TheVariants as fault_is
use Rattle.pest_meta.specs.declared.report.Report as code
use Rattle.pest_meta.specs.declared.report.Report.TheVariants as report_is

-- the end of a line and an empty line
abbrev pub empty_line : List ℕ
empty_line = 10 ∷ 10 ∷ []

-- `grammar error`, an empty line, and the printed errors with an empty line between two of them
abbrev pub report_text : List (Error Rule) → List ℕ
report_text errors = codes "grammar error" ++ empty_line ++ join_by error_text empty_line errors

-- an allocation failure is reported as that, and errors as their text, unless an allocation for the text
-- fails
abbrev pub IsReportOf : Fault → code.Report → Type 0
IsReportOf (fault_is.Memory e) report = report ≡ report_is.Memory
IsReportOf (fault_is.Grammar errors) report_is.Memory = ⊤
IsReportOf (fault_is.Grammar errors) (report_is.Text text) = string_bytes text ≡ report_text errors.items
