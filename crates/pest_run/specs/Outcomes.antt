-- The outcome of a rule on a text.
use Rattle.std.specs.Prelude.{◌≡◌, ◌⊎◌, ◌<◌, ◌≤◌, ◌^◌, ◌&&◌, ℕ, List, ◌++◌, Option, Some, None, Bool, false, true, codes, drop, if◌then◌else◌, length, nat_le, option_map, string_bytes, ⊤}
use Rattle.std.specs.Str.{chars}
use Rattle.base_language.specs.Language.Expression.{Grammar, Ident, rule_of}
use Rattle.base_language.specs.Language.Expected.{expected}
use Rattle.base_language.specs.Language.FurthestFailure.{furthest}
use Rattle.base_language.specs.Language.State.{State, Trees, Outcome as Result, Success, Failure}
use Rattle.base_language.specs.Language.Text.{Text}
use Rattle.base_language.specs.Language.WellFormed.{InSomeRule}
use Rattle.base_language.specs.Pieces.LineColumn.{line_column}
use Rattle.base_language.specs.Pieces.PrintedError.{error_line, message_of, printed_line}
use Rattle.base_language.specs.declared.grammar.Rule.{Rule}
use Rattle.base_language.specs.declared.runtime.errors.Error.{Error}
use Rattle.base_language.specs.declared.runtime.errors.LineColLocation.TheVariants.{Pos}
use Rattle.matcher_program.specs.Refusals.{IsBoundOf, IsNoCharacter, IsUnknown}
use Rattle.matcher_program.specs.declared.compile.Unfit.{Unfit}
use Rattle.matcher_program.specs.declared.compile.Unfit.TheVariants as unfit
use Rattle.matcher_engine.specs.Reasons.{IsLonger, ReadsEmptyStack}
use Rattle.matcher_program.specs.Answers.{Has, start_of}
use Rattle.matcher_program.specs.ExpectedNames.{each_once, name_texts}
use Rattle.matcher_program.specs.Sizes.{most_steps}
use Rattle.matcher_program.specs.declared.answers.Stop.{Stop}
use Rattle.matcher_program.specs.declared.answers.Stop.TheVariants as stop
use Rattle.matcher_support.specs.Lines.{lines_of}
use Rattle.matcher_support.specs.Sets.{has_set, is_in_property}
use Rattle.matcher_support.specs.Shown.{shown}
use Rattle.matcher_support.specs.Values.{answer_data}
use Rattle.program_support.specs.Escapes.{escaped_json, escaped_lines}
use Rattle.program_support.specs.Messages.{ShowsError}
use Rattle.pest_run.specs.Messages.{IsStepsText, end_text, failure_text, is_more, no_rule_text, unnamed_end_text, unnamed_text}
use Rattle.pest_run.specs.Failures.{AreTold}
use Rattle.pest_run.specs.declared.arguments.Format.{Format}
use Rattle.pest_run.specs.declared.arguments.Format.TheVariants as format_is
use Rattle.pest_run.specs.declared.arguments.Limits.{Limits}
use Rattle.matcher_support.specs.declared.attempts.NamedAttempts.{NamedAttempts}
use Rattle.pest_run.specs.declared.outcomes.Outcome.{Outcome}
use Rattle.pest_run.specs.declared.outcomes.Outcome.TheVariants as is
use Rattle.serde_json.specs.Written.{compact_text}

-- trees of a text, and where they end, as text or as a line of JSON, with escapes of hidden characters
abbrev pub trees_text : Format → List ℕ → ℕ → Trees → List ℕ
trees_text format_is.Text text end_ trees = escaped_lines (shown text 0 trees)
trees_text format_is.Lines text end_ trees = lines_of 0 trees
trees_text format_is.Json text end_ trees =
    escaped_json (compact_text (answer_data text end_ trees)) ++ codes "\n"

-- the note on a match that ends at a position, and has its furthest failure at another, if these names
-- are expected: as text, if more than a line's end of the text is left
abbrev pub end_note : Format → List ℕ → (end_ place : ℕ) → List Text → Option (List ℕ)
end_note format_is.Text text end_ place names =
    if is_more (drop end_ text) then Some (end_text text end_ place names) else None
end_note format_is.Json text end_ place names = None
end_note format_is.Lines text end_ place names = None

-- whether the note tells what is expected: as text, if more than a line's end is left, and the furthest
-- failure is no earlier than the end
abbrev pub tells_expected : Format → List ℕ → (end_ place : ℕ) → Bool
tells_expected format_is.Text text end_ place = nat_le end_ place && is_more (drop end_ text)
tells_expected format_is.Json text end_ place = false
tells_expected format_is.Lines text end_ place = false

-- the rule, called at the start of the text, succeeds, and the lines show its trees
pub record IsShown (g : Grammar) (rule text : List ℕ) (format : Format) (lines : List ℕ) : Type 0 where
  pub end_ : State
  pub trees : Trees
  pub matches : Has g (chars rule) text is_in_property (Success end_ trees)
  pub lines_show : lines ≡ trees_text format text end_.position trees

-- for each outcome of the rule the matcher may take more steps than the limit, and so does a run, also if
-- there is none
abbrev pub TakesTooManySteps : Grammar → List ℕ → List ℕ → ℕ → Type 0
TakesTooManySteps g rule text limit =
    ((o : Result) (found : Has g (chars rule) text is_in_property o) → limit < most_steps found)
    × ∥ IsLonger g is_in_property (chars rule) (start_of text) limit ∥₁

-- the rule, called at the start of the text, succeeds, and the note, if there is one, tells where it ends,
-- and the names that are expected at its furthest failure; or that these were not found in a given number of
-- steps, and for each outcome the matcher may take more
pub record IsNoted (g : Grammar) (rule text : List ℕ) (format : Format) (limit : ℕ) (note : Option (List ℕ))
    : Type 0 where
  pub end_ : State
  pub trees : Trees
  pub matches : Has g (chars rule) text is_in_property (Success end_ trees)
  pub tells :
      (note ≡ end_note format text end_.position (furthest matches) (each_once (expected matches)))
      ⊎ (tells_expected format text end_.position (furthest matches) ≡ true
      × TakesTooManySteps g rule text limit
      × (note ≡ Some (unnamed_end_text text end_.position (furthest matches) limit)))

-- a report of a message on a position of the text of a file
pub record ReportsAt (name text : List ℕ) (place : ℕ) (message report : List ℕ) : Type 0 where
  pub error : Error Rule
  pub says : message_of error.variant ≡ message
  pub at_place : error.line_col ≡ Pos (line_column text place)
  pub line : error_line error ≡ printed_line text place
  pub shows : ShowsError (Some name) error report

-- a report of a failure there, if these names are expected, and others are not
abbrev pub ReportsFailure : (name text : List ℕ) → ℕ → (names others : List Text) → List ℕ → Type 0
ReportsFailure name text place names others report =
    ReportsAt name text place (failure_text names others) report

-- the rule, called at the start of the text of a file, fails, and the report shows the furthest position of a
-- failure, and the names that are expected there; or the position and the names of pest's own error
pub record HasFailed (g : Grammar) (rule name text report : List ℕ) : Type 0 where
  pub fails : Has g (chars rule) text is_in_property Failure
  pub place : ℕ
  pub names : List Text
  pub others : List Text
  pub are : AreTold fails place names others
  pub reports : ReportsFailure name text place names others report

-- the rule, called at the start of the text of a file, fails, and the report shows the furthest position of a
-- failure, if what is expected was not found in a given number of steps; and for each outcome the matcher may
-- take more
pub record HasUnnamed (g : Grammar) (rule name text : List ℕ) (limit : ℕ) (report : List ℕ) : Type 0 where
  pub fails : Has g (chars rule) text is_in_property Failure
  pub long : TakesTooManySteps g rule text limit
  pub reports : ReportsAt name text (furthest fails) (unnamed_text limit) report

-- no rule has the name
abbrev pub HasNoRule : Grammar → List ℕ → Type 0
HasNoRule g rule = rule_of g (chars rule) ≡ None

-- the rule, called at the start of the text, has no outcome, and a run reads the empty stack
abbrev pub HasNoOutcome : Grammar → List ℕ → List ℕ → Type 0
HasNoOutcome g rule text = ((o : Result) → Has g (chars rule) text is_in_property o → ⊥)
    × ∥ ReadsEmptyStack g is_in_property (chars rule) (start_of text) ∥₁

-- some rule calls a name that no rule has, and that is no builtin's with a known set
abbrev pub CallsUnknownName : Grammar → Type 0
CallsUnknownName g = (n : Text) × InSomeRule g (Ident n) × IsUnknown has_set g n

-- a bound of some range is not one character
abbrev pub HasWrongBound : Grammar → Type 0
HasWrongBound g = (t : Text) × IsBoundOf (InSomeRule g) t × IsNoCharacter t

-- the outcome says why the matcher stopped a run of at most a given number of steps, or reports an allocation
-- failure
abbrev pub IsStopReport : Stop → ℕ → Outcome → Type 0
IsStopReport stop.Memory limit o = o ≡ is.Memory
IsStopReport stop.EmptyStack limit o = o ≡ is.EmptyStack
IsStopReport stop.TextTooLong limit o = o ≡ is.LongText
IsStopReport stop.OutOfSteps limit (is.OutOfSteps message) = IsStepsText limit (string_bytes message)
IsStopReport stop.OutOfSteps limit is.Memory = ⊤
IsStopReport stop.OutOfSteps limit _ = ⊥

-- the outcome of rules that can't be run
abbrev pub unfit_outcome : Unfit → Outcome
unfit_outcome unfit.Memory = is.Memory
unfit_outcome (unfit.UnknownName name) = is.UnknownName
unfit_outcome (unfit.Bound text) = is.Bound

-- the outcome reports a failure on the text of a file, or an allocation failure
abbrev pub IsFailureReport : List ℕ → List ℕ → NamedAttempts → Outcome → Type 0
IsFailureReport name text failure (is.Failed report) =
    ReportsFailure name text failure.place (name_texts failure.positives.items)
    (name_texts failure.negatives.items) (string_bytes report)
IsFailureReport name text failure is.Memory = ⊤
IsFailureReport name text failure _ = ⊥

-- the outcome reports a failure at a position of the text of a file, if what is expected was not found in a
-- given number of steps; or it reports an allocation failure
abbrev pub IsUnnamedReport : List ℕ → List ℕ → (place limit : ℕ) → Outcome → Type 0
IsUnnamedReport name text place limit (is.Unnamed report) =
    ReportsAt name text place (unnamed_text limit) (string_bytes report)
IsUnnamedReport name text place limit is.Memory = ⊤
IsUnnamedReport name text place limit _ = ⊥

-- the outcome shows the trees of a match that ends at a position, and has its furthest failure at another,
-- if these names are expected; or it reports an allocation failure
abbrev pub IsMatchReport : List ℕ → Format → (end_ place : ℕ) → List Text → Trees → Outcome → Type 0
IsMatchReport text format end_ place names trees (is.Shown lines note) =
    (string_bytes lines ≡ trees_text format text end_ trees)
    × (option_map string_bytes note ≡ end_note format text end_ place names)
IsMatchReport text format end_ place names trees is.Memory = ⊤
IsMatchReport text format end_ place names trees _ = ⊥

-- so it does where what is expected there was not found in a given number of steps
abbrev pub IsUnnamedMatchReport : List ℕ → Format → (end_ place limit : ℕ) → Trees → Outcome → Type 0
IsUnnamedMatchReport text format end_ place limit trees (is.Shown lines note) =
    (string_bytes lines ≡ trees_text format text end_ trees)
    × (option_map string_bytes note ≡ Some (unnamed_end_text text end_ place limit))
IsUnnamedMatchReport text format end_ place limit trees is.Memory = ⊤
IsUnnamedMatchReport text format end_ place limit trees _ = ⊥

-- the outcome says that no rule has the name, or reports an allocation failure
abbrev pub IsNoRuleReport : Grammar → List ℕ → Outcome → Type 0
IsNoRuleReport g rule (is.NoRule message) = string_bytes message ≡ no_rule_text g rule
IsNoRuleReport g rule is.Memory = ⊤
IsNoRuleReport g rule _ = ⊥

-- the outcome is that of the rule on the text of a file, or says why the rules can't be run; an allocation
-- failure is not constrained
abbrev pub IsOutcome : Grammar → (rule name text : List ℕ) → Format → Limits → Outcome → Type 0
IsOutcome g rule name text format limits (is.Shown lines note) =
    IsShown g rule text format (string_bytes lines)
    × IsNoted g rule text format limits.names (option_map string_bytes note)
IsOutcome g rule name text format limits (is.Failed report) = HasFailed g rule name text (string_bytes report)
IsOutcome g rule name text format limits (is.Unnamed report) =
    HasUnnamed g rule name text limits.names (string_bytes report)
IsOutcome g rule name text format limits (is.NoRule message) =
    HasNoRule g rule × (string_bytes message ≡ no_rule_text g rule)
IsOutcome g rule name text format limits (is.OutOfSteps message) =
    TakesTooManySteps g rule text limits.steps × IsStepsText limits.steps (string_bytes message)
IsOutcome g rule name text format limits is.EmptyStack = HasNoOutcome g rule text
IsOutcome g rule name text format limits is.UnknownName = CallsUnknownName g
IsOutcome g rule name text format limits is.Bound = HasWrongBound g
IsOutcome g rule name text format limits is.LongText = 2 ^ 32 ≤ length text
IsOutcome g rule name text format limits is.Memory = ⊤
