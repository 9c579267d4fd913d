-- Codes, and the spans at which a grammar has those of warnings.
use Rattle.std.specs.Prelude.{◌≡◌, ℕ, List, [], ◌∷◌, ◌++◌, Bool, true, false, ◌||◌, bytes_eq, codes, filter, flat_map, if◌then◌else◌, map, not, take}
use Rattle.base_language.specs.Language.Text.{Text}
use Rattle.base_language.specs.Pieces.Saying.{Span}
use Rattle.front_spanned.specs.Spanned.{SpannedRule}
use Rattle.lint_findings.specs.declared.codes.Code.{Code}
use Rattle.lint_findings.specs.declared.codes.Code.TheVariants as code
use Rattle.lint_findings.specs.declared.codes.Report.{Report}
use Rattle.lint_findings.specs.declared.codes.Report.TheVariants as report
use Rattle.lint_findings.specs.declared.codes.Severity.{Severity}
use Rattle.lint_findings.specs.declared.codes.Severity.TheVariants as severity
use Rattle.lint_patterns.specs.Copies.{many_copies}
use Rattle.lint_patterns.specs.Bodies.{repeated_bodies}
use Rattle.lint_patterns.specs.Duplicates.{repeated_alternatives}
use Rattle.lint_patterns.specs.Ends.{open_starts}
use Rattle.lint_findings.specs.Names.{is_builtin_name, is_keyword, named_rules}
use Rattle.lint_warnings.specs.Choices.{unreachable_choices}
use Rattle.lint_warnings.specs.Rules.{uncalled_rules}
use Rattle.lint_warnings.specs.Suspects.{suspects}
use Rattle.lint_warnings.specs.Tokens.{blanks_in_tokens}
use Rattle.lint_warnings.specs.declared.suspects.Suspect.TheVariants as suspect

-- the facts of a code: its name, how its diagnostics are reported, the message of its warnings, and the spans
-- at which rules, of which those of some names are starts, have a warning of it
pub record Facts : Type 0 where
  pub name : List ℕ
  pub report : Report
  pub message : List ℕ
  pub spans : List Text → List SpannedRule → List Span

-- of an error, of a warning, and of one that is reported if all are asked for
abbrev pub error : List ℕ → Facts
error name = record { name = name; report = report.Error; message = []; spans = λ starts rules. [] }

abbrev pub warned : List ℕ → List ℕ → (List Text → List SpannedRule → List Span) → Facts
warned name message spans =
    record { name = name; report = report.Warning; message = message; spans = spans }

abbrev pub on_request : List ℕ → List ℕ → (List SpannedRule → List Span) → Facts
on_request name message spans =
    record { name = name; report = report.OnRequest; message = message; spans = λ starts. spans }

-- of a warning that is not of rules alone
abbrev pub nowhere : List Text → List SpannedRule → List Span
nowhere starts rules = []

-- of each choice with alternatives that are never taken, the first of these
abbrev pub first_unreachable : List SpannedRule → List Span
first_unreachable rules = flat_map (take 1) (unreachable_choices rules)

abbrev pub facts_of : Code → Facts
facts_of code.Syntax = error (codes "pest::syntax")
facts_of code.EscapeValue = error (codes "pest::escape_value")
facts_of code.NumberRange = error (codes "pest::number_range")
facts_of code.ZeroRepetition = error (codes "pest::zero_repetition")
facts_of code.ReservedName = error (codes "pest::reserved_name")
facts_of code.DuplicateRule = error (codes "pest::duplicate_rule")
facts_of code.UndefinedRule = error (codes "pest::undefined_rule")
facts_of code.MissingProperty = error (codes "pest::missing_property")
facts_of code.LeftRecursion = error (codes "pest::left_recursion")
facts_of code.EndlessRepetition = error (codes "pest::endless_repetition")
facts_of code.UnreachableChoice = error (codes "pest::unreachable_choice")
facts_of code.TagWithoutToken = error (codes "pest::tag_without_token")
facts_of code.UnusedAllowance = warned (codes "pest::unused_allowance")
    (codes "this allows nothing in the rule below") nowhere
facts_of code.UncalledRule = warned (codes "pest::uncalled_rule")
    (codes "this rule is never used") uncalled_rules
facts_of code.MissingEnd = warned (codes "pest::missing_end")
    (codes "start rule doesn't require EOI, so it can stop before the end of the input") open_starts
facts_of code.UnknownStart = warned (codes "pest::unknown_start")
    (codes "no rule has this name") nowhere
facts_of code.Unreachable = warned (codes "pest::unreachable")
    (codes "unreachable: an earlier alternative matches a prefix of everything this one matches")
    (λ starts. first_unreachable)
facts_of code.ReversedRange = warned (codes "pest::reversed_range")
    (codes "this range is empty: its first character is greater than its last")
    (λ starts. suspects suspect.ReversedRange)
facts_of code.ReversedCount = warned (codes "pest::reversed_count")
    (codes "the first number is greater than the last, and is ignored")
    (λ starts. suspects suspect.ReversedCount)
facts_of code.IdleTest = warned (codes "pest::idle_test")
    (codes "this has no effect, since its operand cannot fail") (λ starts. suspects suspect.IdleTest)
facts_of code.NeverMatches = warned (codes "pest::never_matches")
    (codes "this never matches") (λ starts. suspects suspect.Unmatchable)
facts_of code.BlanksInToken = warned (codes "pest::blanks_in_token")
    (codes "implicit whitespace is allowed between these characters") (λ starts. blanks_in_tokens)
facts_of code.ManyCopies = warned (codes "pest::many_copies")
    (codes "the optimizer makes 10,000 copies or more of what this repeats") (λ starts. many_copies)
facts_of code.RepeatedAlternative = warned (codes "pest::repeated_alternative")
    (codes "unreachable: this alternative is the same as an earlier one") (λ starts. repeated_alternatives)
facts_of code.RewrittenList = warned (codes "pest::rewritten_list")
    (codes "pest runs a list `(x ~ y)* ~ x` of this rule as `x ~ (y ~ x)*`") nowhere
facts_of code.KeywordName = on_request (codes "pest::keyword_name")
    (codes "Rust keeps this name for itself") (named_rules is_keyword)
facts_of code.BuiltinName = on_request (codes "pest::builtin_name")
    (codes "this name is that of a builtin") (named_rules is_builtin_name)
facts_of code.RepeatedBody = on_request (codes "pest::repeated_body")
    (codes "a rule before this one has the same type and body") repeated_bodies
facts_of code.StackRead = on_request (codes "pest::stack_read")
    (codes "the stack is read: the time of a match has no bound that is known") (suspects suspect.StackRead)

-- all codes, in order
abbrev pub all_codes : List Code
all_codes = code.Syntax ∷ code.EscapeValue ∷ code.NumberRange ∷ code.ZeroRepetition ∷ code.ReservedName ∷
    code.DuplicateRule ∷ code.UndefinedRule ∷ code.MissingProperty ∷ code.LeftRecursion ∷
    code.EndlessRepetition ∷ code.UnreachableChoice ∷ code.TagWithoutToken ∷ code.UnusedAllowance ∷
    code.UncalledRule ∷ code.MissingEnd ∷ code.UnknownStart ∷ code.Unreachable ∷ code.ReversedRange ∷
    code.ReversedCount ∷ code.IdleTest ∷ code.NeverMatches ∷ code.BlanksInToken ∷ code.ManyCopies ∷
    code.RepeatedAlternative ∷ code.RewrittenList ∷ code.KeywordName ∷ code.BuiltinName ∷
    code.RepeatedBody ∷ code.StackRead ∷ []

abbrev pub code_name : Code → List ℕ
code_name c = (facts_of c).name

abbrev pub report_of : Code → Report
report_of c = (facts_of c).report

abbrev pub message_of : Code → List ℕ
message_of c = (facts_of c).message

abbrev pub spans_of : Code → List Text → List SpannedRule → List Span
spans_of c = (facts_of c).spans

-- warnings are those of an accepted text
abbrev pub severity_as : Report → Severity
severity_as report.Error = severity.Error
severity_as report.Warning = severity.Warning
severity_as report.OnRequest = severity.Warning

abbrev pub severity_of : Code → Severity
severity_of c = severity_as (report_of c)

-- its warnings are reported only if all are asked for
abbrev pub is_on_request : Report → Bool
is_on_request report.Error = false
is_on_request report.Warning = false
is_on_request report.OnRequest = true

unfoldable pub is_optional : Code → Bool
is_optional c = is_on_request (report_of c)

abbrev pub warning_codes : List Code
warning_codes = filter (λ c. not (is_optional c)) all_codes

abbrev pub optional_codes : List Code
optional_codes = filter is_optional all_codes

-- a warning's code, and its span
pub record Warning : Type 0 where
  pub code : Code
  pub span : Span

abbrev pub warning : Code → Span → Warning
warning c span = record { code = c; span = span }

abbrev pub warnings_with : List Text → List SpannedRule → Code → List Warning
warnings_with starts rules c = map (warning c) (spans_of c starts rules)

-- the warnings of rules, code by code, of which those of some names are starts
abbrev pub warnings_of : List Text → List SpannedRule → List Warning
warnings_of starts rules = flat_map (warnings_with starts rules) warning_codes

-- if all are asked for, these too
abbrev pub all_warnings_of : List Text → List SpannedRule → List Warning
all_warnings_of starts rules =
    warnings_of starts rules ++ flat_map (warnings_with starts rules) optional_codes

abbrev pub chosen_warnings : Bool → List Text → List SpannedRule → List Warning
chosen_warnings all starts rules = if all then all_warnings_of starts rules else warnings_of starts rules

-- how each of their names begins
abbrev pub pest : List ℕ
pest = codes "pest::"

-- the name is that of the code, with or without `pest::`
abbrev pub has_name : Code → List ℕ → Bool
has_name c name = bytes_eq (code_name c) name || bytes_eq (code_name c) (pest ++ name)

-- no code has the name
abbrev pub IsUnknown : List ℕ → Type 0
IsUnknown name = (c : Code) → has_name c name ≡ false

abbrev pub severity_name : Severity → List ℕ
severity_name severity.Error = codes "error"
severity_name severity.Warning = codes "warning"
