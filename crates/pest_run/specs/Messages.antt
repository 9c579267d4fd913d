-- Messages about a rule, a text and files.
use Rattle.std.specs.Prelude.{◌≡◌, ◌⊎◌, ℕ, ◌-◌, ◌*◌, ◌^◌, ◌==◌, ◌||◌, not, Bool, List, [], ◌++◌, bytes_eq, codes, if◌then◌else◌, length, min, nat_le, take}
use Rattle.std.specs.Fmt.{decimal}
use Rattle.base_language.specs.Language.Expression.{Grammar}
use Rattle.base_language.specs.Language.Text.{Text}
use Rattle.base_language.specs.Pieces.LineColumn.{line_column}
use Rattle.matcher_support.specs.Expectations.{failure_message, list_text}
use Rattle.program_support.specs.Escapes.{escaped_bytes}
use Rattle.pest_run.specs.RuleNames.{near_names}

-- whether one of some names is meant: `; did you mean a, b, or c?`
abbrev pub suggestion : List Text → List ℕ
suggestion [] = []
suggestion names = codes "; did you mean " ++ list_text names ++ codes "?"

-- that no rule has a name, and the first five names of rules that are near it
abbrev pub no_rule_text : Grammar → List ℕ → List ℕ
no_rule_text g name =
    codes "the grammar has no rule " ++ escaped_bytes name ++ suggestion (take 5 (near_names g name))

-- sixteen times the steps, as far as they can be counted
abbrev pub more_steps : ℕ → ℕ
more_steps steps = min (steps * 16) (2 ^ 64 - 1)

-- this many steps, and a number to try
abbrev pub limit_text : ℕ → List ℕ
limit_text steps =
    decimal steps ++ (codes " steps; --steps " ++ (decimal (more_steps steps) ++ codes " allows more"))

-- that a match was stopped after this many steps
abbrev pub steps_text : ℕ → List ℕ
steps_text steps = codes "the match was stopped after " ++ limit_text steps

-- so too, if a rule uses the stack
abbrev pub stack_text : ℕ → List ℕ → List ℕ
stack_text steps user =
    steps_text steps ++ codes " (rule " ++ escaped_bytes user ++ codes " uses the stack)"

-- one of these messages
abbrev pub IsStepsText : ℕ → List ℕ → Type 0
IsStepsText steps message =
    (message ≡ steps_text steps) ⊎ ((user : List ℕ) × (message ≡ stack_text steps user))

-- that the expected set of a failure was not found in a given number of steps
abbrev pub unnamed_text : ℕ → List ℕ
unnamed_text steps = codes "what is expected here was not found in " ++ limit_text steps

-- more than a line's end is left of a text
abbrev pub is_more : List ℕ → Bool
is_more rest = not (length rest == 0 || bytes_eq rest (codes "\n") || bytes_eq rest (codes "\r\n"))

-- a line and a column
abbrev pub place_text : ℕ × ℕ → List ℕ
place_text place = decimal place.0 ++ (codes ":" ++ decimal place.1)

-- that a match ends at a position, and the text at another
abbrev pub note_between : ℕ × ℕ → ℕ × ℕ → List ℕ
note_between end_ last =
    codes "note: matched up to " ++ place_text end_ ++ codes ", the text ends at " ++ place_text last

-- that these names are expected, in pest's words; or that none is
abbrev pub expected_or_none : List Text → List ℕ
expected_or_none [] = codes "no rule is expected here: what failed gives no token, or stands below a `!`"
expected_or_none names = failure_message names

-- that these names are expected, too, if there are any
abbrev pub expected_too : List Text → List ℕ
expected_too [] = []
expected_too names = codes "; " ++ failure_message names

-- the message on a failure if these names are expected, and others are not, in pest's words:
-- `unexpected a; expected b or c`
abbrev pub failure_text : (names others : List Text) → List ℕ
failure_text names [] = expected_or_none names
failure_text names others = codes "unexpected " ++ list_text others ++ expected_too names

-- that these names are expected at a position, if there are any
abbrev pub expected_text : ℕ × ℕ → List Text → List ℕ
expected_text place [] = []
expected_text place names = codes "; " ++ failure_message names ++ codes " at " ++ place_text place

-- that a match ends at a byte position of a text; and, if its furthest failure is no earlier, the names that
-- are expected there
abbrev pub end_text : List ℕ → (end_ place : ℕ) → List Text → List ℕ
end_text text end_ place names =
    note_between (line_column text end_) (line_column text (length text))
    ++ (if nat_le end_ place then expected_text (line_column text place) names else [])

-- that something was not found in a given number of steps
abbrev pub not_found_text : ℕ → List ℕ
not_found_text steps = codes " was not found in " ++ limit_text steps

-- that a match ends at a byte position of a text, and that what is expected at another was not found in a
-- given number of steps
abbrev pub unnamed_end_text : List ℕ → (end_ place limit : ℕ) → List ℕ
unnamed_end_text text end_ place limit =
    note_between (line_column text end_) (line_column text (length text))
    ++ codes "; what is expected at " ++ place_text (line_column text place) ++ not_found_text limit

-- that the optimized rules match
abbrev pub optimized_text : List ℕ
optimized_text = codes "note: the optimized rules, which pest runs, match this text: see --optimized"

-- that a file can't be read, and why
abbrev pub unread_text : List ℕ → List ℕ → List ℕ
unread_text name why = codes "cannot read " ++ escaped_bytes name ++ codes ": " ++ escaped_bytes why
