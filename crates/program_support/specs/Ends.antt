-- The texts that end a run.
use Rattle.std.specs.Prelude.{◌≡◌, ℕ, List, [], ◌∷◌, ◌++◌, Bool, false, true, None, Option, Result, Some, OnOk}
use Rattle.std.specs.Io.KnownBytes.{Appends}
use Rattle.base_language.specs.declared.grammar.Rule.{Rule}
use Rattle.base_language.specs.declared.runtime.errors.Error.{Error}
use Rattle.pest_meta.specs.Reports.{report_text}
use Rattle.program_support.specs.Messages.{IsReport}

-- unless a write was refused, the writer's contents grew by the message and a line feed
abbrev pub WritesLine : {X E : Type 0} → List ℕ → Result X E → Option (List ℕ) → Option (List ℕ) → Type 0
WritesLine message written old new = OnOk written (Appends old new (message ++ 10 ∷ []))

-- the report of errors: the text that the original prints, or at a terminal what a person is shown of it
abbrev pub IsReportFor : Bool → List (Error Rule) → List ℕ → Type 0
IsReportFor false errors report = report ≡ report_text errors
IsReportFor true errors report = IsReport errors report

-- the report of errors, for a terminal or not, is the line
pub record WritesReport {X E : Type 0} (is_terminal : Bool) (errors : List (Error Rule))
    (written : Result X E) (old new : Option (List ℕ)) : Type 0 where
  pub report : List ℕ
  pub shows : IsReportFor is_terminal errors report
  pub line : WritesLine report written old new

-- a note is a line; if there is none, the writer is the same
abbrev pub WritesNote : {X E : Type 0} → Option (List ℕ) → Type 0 → Result X E
    → Option (List ℕ) → Option (List ℕ) → Type 0
WritesNote None same written old new = same
WritesNote (Some note) same written old new = WritesLine note written old new
