-- Errors and warnings, and the diagnostics that report them.
use Rattle.std.specs.Prelude.{◌≡◌, ℕ, List, [], ◌∷◌, Bool, true, false, map, string_bytes}
use Rattle.std.specs.Borrow.{Bor}
use Rattle.std.specs.List.{AllZip}
use Rattle.base_language.specs.Pieces.Saying.{Complaint, piece_of, written}
use Rattle.base_language.specs.declared.grammar.Rule.{Rule}
use Rattle.base_language.specs.declared.grammar.Rule.TheVariants.{grammar_rules}
use Rattle.base_language.specs.declared.runtime.errors.Error.{Error}
use Rattle.base_language.specs.declared.runtime.errors.InputLocation.{InputLocation}
use Rattle.base_language.specs.declared.runtime.errors.InputLocation.TheVariants as at
use Rattle.front_names.specs.NameFindings.{complaint_of}
use Rattle.front_names.specs.declared.findings.NameFinding.{NameFinding}
use Rattle.front_reader.specs.CommonNames.{common_name}
use Rattle.front_reader.specs.Refusals.{cause_message}
use Rattle.front_reader.specs.Views.{cause_of}
use Rattle.front_reader.specs.declared.rules.flaws.Flaw.{Flaw}
use Rattle.front_syntax.specs.ExpectedRules.{AreExpected}
use Rattle.front_validator.specs.Reporting.{finding_of}
use Rattle.front_validator.specs.declared.problems.RuleFinding.{RuleFinding}
use Rattle.lint_findings.specs.Codes.{Warning, message_of}
use Rattle.lint_findings.specs.Helps.{IsHelpOf}
use Rattle.lint_findings.specs.Problems.{flaw_code, name_code, rule_code}
use Rattle.lint_findings.specs.declared.codes.Code.{Code}
use Rattle.lint_findings.specs.declared.codes.Code.TheVariants as code
use Rattle.lint_findings.specs.declared.codes.Severity.{Severity}
use Rattle.lint_findings.specs.declared.codes.Severity.TheVariants as severity
use Rattle.lint_findings.specs.declared.diagnostic.Diagnostic.{Diagnostic}
use Rattle.pest_meta.specs.declared.opened.OpenError.{OpenError}
use Rattle.pest_meta.specs.declared.opened.OpenError.TheVariants as refusal

-- a position or a span begins and ends at these bytes
abbrev pub IsAt : InputLocation → ℕ → ℕ → Type 0
IsAt (at.Pos p) start end = (start ≡ p) × (end ≡ p)
IsAt (at.Span span) start end = (start ≡ span.0) × (end ≡ span.1)

-- the diagnostic is an error
abbrev pub is_severe : Severity → Bool
is_severe severity.Error = true
is_severe severity.Warning = false

abbrev pub is_error : Diagnostic → Bool
is_error diagnostic = is_severe diagnostic.severity

-- the names of the rules that are expected where a text is no grammar
abbrev pub AreExpectedNames : List ℕ → List (Bor (List ℕ)) → Type 0
AreExpectedNames text names = (rules : List Rule) × AreExpected grammar_rules text rules
    × (map (λ name. name.now) names ≡ map common_name rules)

-- the diagnostic reports a syntax error; its message and its help are tested by examples/lint
pub record ReportsSyntax (text : List ℕ) (error : Error Rule) (diagnostic : Diagnostic) : Type 0 where
  pub severity : diagnostic.severity ≡ severity.Error
  pub code : diagnostic.code ≡ code.Syntax
  pub location : IsAt error.location diagnostic.start diagnostic.end
  pub expected : AreExpectedNames text diagnostic.expected.items

-- the diagnostic reports an error by a code, with the message and the piece of a complaint
pub record ReportsComplaint (c : Code) (complaint : Complaint) (diagnostic : Diagnostic) : Type 0 where
  pub severity : diagnostic.severity ≡ severity.Error
  pub code : diagnostic.code ≡ c
  pub start : diagnostic.start ≡ complaint.span.start
  pub end : diagnostic.end ≡ complaint.span.end
  pub message : string_bytes diagnostic.message ≡ complaint.message

-- a finding about a name has the code of its problem, and a help for that
pub record ReportsNameFinding (finding : NameFinding) (diagnostic : Diagnostic) : Type 0 where
  pub complaint : ReportsComplaint (name_code finding.problem (written (piece_of finding.span)))
      (complaint_of finding) diagnostic
  pub help : IsHelpOf diagnostic.code diagnostic.help

-- a flaw and a finding in rules have the codes of their kinds
abbrev pub ReportsFlawFound : Flaw → Diagnostic → Type 0
ReportsFlawFound flaw = ReportsComplaint (flaw_code flaw.cause)
    (record { message = cause_message (cause_of flaw.cause); span = piece_of flaw.span })

abbrev pub ReportsRuleFinding : RuleFinding → Diagnostic → Type 0
ReportsRuleFinding finding = ReportsComplaint (rule_code finding.problem) (finding_of finding)

-- the diagnostics report why a text is not opened: all that was found, in its order
abbrev pub ReportsRefusal : List ℕ → OpenError → List Diagnostic → Type 0
ReportsRefusal text (refusal.Memory e) diagnostics = ⊥
ReportsRefusal text (refusal.Syntax error) diagnostics =
    AllZip (ReportsSyntax text) (error ∷ []) diagnostics
ReportsRefusal text (refusal.Names findings) diagnostics =
    AllZip ReportsNameFinding findings.items diagnostics
ReportsRefusal text (refusal.Flaw flaw) diagnostics = AllZip ReportsFlawFound (flaw ∷ []) diagnostics
ReportsRefusal text (refusal.Rules findings) diagnostics =
    AllZip ReportsRuleFinding findings.items diagnostics

-- the diagnostic reports a warning, with the message of its code; helps are tested by examples/lint
pub record ReportsWarning (warning : Warning) (diagnostic : Diagnostic) : Type 0 where
  pub severity : diagnostic.severity ≡ severity.Warning
  pub code : diagnostic.code ≡ warning.code
  pub message : string_bytes diagnostic.message ≡ message_of warning.code
  pub start : diagnostic.start ≡ warning.span.start
  pub end : diagnostic.end ≡ warning.span.end
