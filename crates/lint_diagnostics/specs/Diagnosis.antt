-- The diagnostics of a text.
use Rattle.std.specs.Prelude.{◌≡◌, ℕ, List, [], ◌∷◌, Bool, false, true, ◌++◌, All, chars, drop, length, map, string_bytes}
use Rattle.std.specs.List.{AllZip}
use Rattle.lint_findings.specs.Allowances.{LeavesOutAllowed}
use Rattle.lint_findings.specs.Codes.{chosen_warnings, warning}
use Rattle.lint_findings.specs.Reports.{ReportsRefusal, ReportsWarning}
use Rattle.lint_findings.specs.Starts.{names_of, stated_starts, unknown_starts}
use Rattle.lint_findings.specs.declared.codes.Code.TheVariants as code
use Rattle.lint_findings.specs.declared.diagnostic.Diagnostic.{Diagnostic}
use Rattle.base_language.specs.Language.State.{Trees}
use Rattle.base_language.specs.Language.Text.{Text}
use Rattle.base_language.specs.Pieces.Saying.{written}
use Rattle.front_names.specs.Builtins.{name_of}
use Rattle.front_names.specs.declared.builtin.Builtin.TheVariants.{Soi}
use Rattle.front_reader.specs.Reading.{ReadsRules}
use Rattle.lint_diagnostics.specs.Messages.{ReportsDifference}
use Rattle.lint_hints.specs.declared.help.Related.{Related}
use Rattle.lint_patterns.specs.Rewritten.{FindsLists, is_optional_name}
use Rattle.front_spanned.specs.Spanned.{Span, SpannedRule}
use Rattle.pest_meta.specs.Opening.{IsOpenError}
use Rattle.pest_meta.specs.Spelling.{HasAnswer, HasTrees}
use Rattle.pest_meta.specs.declared.opened.OpenError.{OpenError}

-- all notes are about texts on which the rule of a name ends otherwise as pest runs it
abbrev pub AreTrueNotes : List ℕ → Span → List Related → Type 0
AreTrueNotes text name notes =
    All (λ note. ReportsDifference text (chars (written name)) (string_bytes note.message)) notes

-- the diagnostic reports that pest runs a list of the rule of a name otherwise
pub record ReportsList (text : List ℕ) (name : Span) (diagnostic : Diagnostic) : Type 0 where
  pub warns : ReportsWarning (warning code.RewrittenList name) diagnostic
  pub notes : AreTrueNotes text name diagnostic.related.items

-- the diagnostics report the warnings of rules that a text spells, all of them or not, and last those of
-- lists that pest runs otherwise
pub record ReportRules (has_all : Bool) (starts : List Text) (text : List ℕ) (rules : List SpannedRule)
    (diagnostics : List Diagnostic) : Type 0 where
  pub lists : List Span
  pub found : FindsLists (is_optional_name rules) rules lists
  pub each : AllZip ReportsWarning
      (chosen_warnings has_all starts rules ++ map (warning code.RewrittenList) lists) diagnostics
  pub last : AllZip (ReportsList text) lists
      (drop (length (chosen_warnings has_all starts rules)) diagnostics)

-- these starts, and those that a text states; with them the first rule is not taken for one
abbrev pub all_starts : List Text → List Text → List Text
all_starts starts [] = starts
all_starts starts (n ∷ ns) = starts ++ (n ∷ ns) ++ name_of Soi ∷ []

-- the diagnostics report the starts that a text states and no rule has, and then the warnings of the rules
-- that its trees are read as, all of them or not, but for those that its comments allow; starts are also
-- those that the text states
pub record ReportWarnings (has_all : Bool) (starts : List Text) (text : List ℕ)
    (diagnostics : List Diagnostic) : Type 0 where
  pub trees : Trees
  pub of_text : HasTrees text trees
  pub rules : List SpannedRule
  pub read : ReadsRules text trees rules
  pub strays : List Diagnostic
  pub unknown : AllZip ReportsWarning (map (warning code.UnknownStart) (unknown_starts text rules)) strays
  pub all : List Diagnostic
  pub each : ReportRules has_all (all_starts starts (names_of (stated_starts text))) text rules all
  pub shown : List Diagnostic
  pub left : LeavesOutAllowed text rules all shown
  pub whole : diagnostics ≡ strays ++ shown

-- the diagnostics of a text, if rules of some names are starts: why it is refused, or its warnings, all of
-- them or not
pub data IsDiagnosisWith (has_all : Bool) (starts : List Text) (text : List ℕ) (diagnostics : List Diagnostic)
    : Type 0 where
  refused : (error : OpenError) → IsOpenError text error → ReportsRefusal text error diagnostics
      → IsDiagnosisWith has_all starts text diagnostics
  accepted : HasAnswer text → ReportWarnings has_all starts text diagnostics
      → IsDiagnosisWith has_all starts text diagnostics

abbrev pub IsDiagnosis : List Text → List ℕ → List Diagnostic → Type 0
IsDiagnosis starts text diagnostics = IsDiagnosisWith false starts text diagnostics

abbrev pub IsFullDiagnosis : List Text → List ℕ → List Diagnostic → Type 0
IsFullDiagnosis starts text diagnostics = IsDiagnosisWith true starts text diagnostics
