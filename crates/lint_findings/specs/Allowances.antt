-- Comments that allow warnings of the rule below them.
use Rattle.std.specs.Prelude.{◌≡◌, ◌+◌, ◌-◌, ℕ, List, [], ◌∷◌, ◌++◌, All, Bool, false, ◌&&◌, not, None, Option, Some, bytes_eq, codes, drop, filter, find, if◌then◌else◌, length, map, nat_eq, nat_le, nat_lt, slice_get, take}
use Rattle.std.specs.List.{AllZip, list_any, starts_with, suffix_len}
use Rattle.std.specs.Option.{option_map_or}
use Rattle.front_spanned.specs.Spanned.{SpannedRule, end_of, span_of}
use Rattle.lint_findings.specs.Codes.{all_codes, code_name, is_optional}
use Rattle.lint_findings.specs.Fragments.{Fragment, between, parts_at}
use Rattle.lint_findings.specs.Starts.{is_blank, is_comment}
use Rattle.lint_findings.specs.declared.allowances.Allowance.{Allowance}
use Rattle.lint_findings.specs.declared.codes.Code.{Code}
use Rattle.lint_findings.specs.declared.codes.Code.TheVariants as code
use Rattle.lint_findings.specs.declared.codes.Severity.TheVariants as severity
use Rattle.lint_findings.specs.declared.diagnostic.Diagnostic.{Diagnostic}

-- the comment that allows a code
abbrev pub comment_of : Code → List ℕ
comment_of c = codes "// pest-lint: allow(" ++ (code_name c ++ codes ")")

-- the code that a comment allows, if it is such a comment
abbrev pub code_in : List ℕ → Option Code
code_in comment = find (λ c. bytes_eq comment (comment_of c)) all_codes

-- a comment above a rule goes for the bytes from its name to its body's end
abbrev pub allowance_of : SpannedRule → Fragment → Allowance
allowance_of rule comment = record {
  code = code_in comment.text;
  start = comment.start;
  end = comment.start + length comment.text;
  first = rule.span.start;
  last = end_of rule.body;
}

-- the comments that stand last among lines
abbrev pub last_comments : List Fragment → List Fragment
last_comments lines = drop (length lines - suffix_len is_comment lines) lines

abbrev pub has_blank_end : List Fragment → Bool
has_blank_end lines = option_map_or is_blank (slice_get lines (length lines - 1)) false

-- the comments right above the last of some lines, which has nothing before a rule's name
abbrev pub comments_above : List Fragment → List Fragment
comments_above lines =
    if has_blank_end lines then last_comments (take (length lines - 1) lines) else []

abbrev pub is_allowance : Fragment → Bool
is_allowance comment = starts_with nat_eq comment.text (codes "// pest-lint:")

-- the allowances right above a rule, from a byte on
abbrev pub allowances_above : List ℕ → ℕ → SpannedRule → List Allowance
allowances_above text from rule = map (allowance_of rule)
    (filter is_allowance (comments_above (parts_at 10 (between text from rule.span.start))))

-- the allowances above each of some rules, from a byte on
abbrev pub allowances_from : List ℕ → ℕ → List SpannedRule → List Allowance
allowances_from text from [] = []
allowances_from text from (rule ∷ rules) =
    allowances_above text from rule ++ allowances_from text (end_of rule.body) rules

abbrev pub allowances_in : List ℕ → List SpannedRule → List Allowance
allowances_in text rules = allowances_from text 0 rules

-- a diagnostic is allowed that has the code and begins in the rule
abbrev pub has_code : Option Code → Code → Bool
has_code None c = false
has_code (Some b) c = bytes_eq (code_name b) (code_name c)

abbrev pub allows : Diagnostic → Allowance → Bool
allows d a = has_code a.code d.code && (nat_le a.first d.start && nat_lt d.start a.last)

abbrev pub is_allowed : List Allowance → Diagnostic → Bool
is_allowed allowances d = list_any (allows d) allowances

abbrev pub is_left : List Allowance → Diagnostic → Bool
is_left allowances d = not (is_allowed allowances d)

-- one of these diagnostics is allowed
abbrev pub is_used : List Diagnostic → Allowance → Bool
is_used diagnostics a = list_any (λ d. allows d a) diagnostics

-- its code is one that is reported only if all are asked for
abbrev pub is_of_option : Option Code → Bool
is_of_option None = false
is_of_option (Some c) = is_optional c

-- none of these diagnostics is allowed, though the code is reported
abbrev pub is_unused : List Diagnostic → Allowance → Bool
is_unused diagnostics a = not (is_of_option a.code) && not (is_used diagnostics a)

-- the diagnostic warns of a comment that allows nothing
pub record WarnsOf (allowance : Allowance) (diagnostic : Diagnostic) : Type 0 where
  pub severity : diagnostic.severity ≡ severity.Warning
  pub code : diagnostic.code ≡ code.UnusedAllowance
  pub start : diagnostic.start ≡ allowance.start
  pub end : diagnostic.end ≡ allowance.end

-- of all comments that allow warnings the first 256 count; useless are others, and all that allow nothing
abbrev pub counted : List ℕ → List SpannedRule → List Allowance
counted text rules = take 256 (allowances_in text rules)

abbrev pub useless : List ℕ → List SpannedRule → List Diagnostic → List Allowance
useless text rules all = filter (is_unused all) (counted text rules) ++ drop 256 (allowances_in text rules)

-- of all diagnostics those are left that no comment allows, and comments that allow nothing are warned of
pub record LeavesOutAllowed (text : List ℕ) (rules : List SpannedRule) (all left : List Diagnostic)
    : Type 0 where
  pub unused : List Diagnostic
  pub warned : AllZip WarnsOf (useless text rules all) unused
  pub rest : left ≡ filter (is_left (counted text rules)) all ++ unused

-- the names and the bodies of rules are parts of the text
abbrev pub ArePartsOf : List ℕ → List SpannedRule → Type 0
ArePartsOf text rules =
    All (λ rule. (rule.span.text ≡ text) × ((span_of rule.body).text ≡ text)) rules
