-- The six lines that an error prints.
use Rattle.std.specs.Prelude.{ℕ, ◌-◌, ◌==◌, ◌&&◌, not, Bool, List, [], ◌∷◌, ◌++◌, take, length, map, filter, replicate, nat_lt, if◌then◌else◌, codes, string_bytes}
use Rattle.std.specs.Arc.{arc_value}
use Rattle.std.specs.Fmt.{decimal}
use Rattle.std.specs.List.{join_with_byte}
use Rattle.std.specs.Str.{chars, encode_utf8_all}
use Rattle.base_language.specs.Pieces.LineColumn.{line_around}
use Rattle.base_language.specs.declared.runtime.errors.Error.{Error}
use Rattle.base_language.specs.declared.runtime.errors.ErrorVariant.{ErrorVariant}
use Rattle.base_language.specs.declared.runtime.errors.ErrorVariant.TheVariants.{ParsingError, CustomError}
use Rattle.base_language.specs.declared.runtime.errors.LineColLocation.{LineColLocation}
use Rattle.base_language.specs.declared.runtime.errors.LineColLocation.TheVariants.{Pos, Span}

-- an error's message
abbrev pub message_of : ErrorVariant → List ℕ
message_of ParsingError = codes "unknown parsing error"
message_of (CustomError message) = string_bytes message

-- the line and the column at which an error begins
abbrev pub start_of : LineColLocation → ℕ × ℕ
start_of (Pos place) = place
start_of (Span start end) = start

-- a character that a printed line keeps: no carriage return and no line feed
abbrev pub is_printed : ℕ → Bool
is_printed c = not (c == 13) && not (c == 10)

-- the line of a position, as it is printed
abbrev pub printed_line : List ℕ → ℕ → List ℕ
printed_line text place = encode_utf8_all (filter is_printed (chars (line_around text place)))

-- the character printed under one before the marks: a tab under a tab, else a blank
abbrev pub blank_under : ℕ → ℕ
blank_under c = if c == 9 then 9 else 32

-- the marks under this many characters: `^`, dashes and `^`, their own number in all, and `^` under one or
-- none
abbrev pub marks : ℕ → List ℕ
marks count = if nat_lt count 2 then codes "^" else codes "^" ++ replicate (count - 2) 45 ++ codes "^"

-- how many characters of its line a span marks: its own, or those up to the line's end where it ends in a
-- later line
abbrev pub marked_count : ℕ × ℕ → ℕ × ℕ → List ℕ → ℕ
marked_count start end line = if end.0 == start.0 then end.1 - start.1 else length line - (start.1 - 1)

-- the marks of an error under its line
abbrev pub marks_under : LineColLocation → List ℕ → List ℕ
marks_under (Pos place) line = codes "^---"
marks_under (Span start end) line = marks (marked_count start end line)

-- the marks of an error, after the blanks under the characters before its column
abbrev pub underline : LineColLocation → List ℕ → List ℕ
underline place line = map blank_under (take ((start_of place).1 - 1) line) ++ marks_under place line

-- as many blanks as a line's number has digits
abbrev pub margin : ℕ → List ℕ
margin number = replicate (length (decimal number)) 32

-- the six lines of an error with this message, at this position, on this printed line
abbrev pub printed_error : List ℕ → LineColLocation → List ℕ → List ℕ
printed_error message place line = let number = (start_of place).0 in
    join_with_byte 10
    ((margin number ++ codes "--> " ++ decimal number ++ codes ":" ++ decimal (start_of place).1)
    ∷ (margin number ++ codes " |")
    ∷ (decimal number ++ codes " | " ++ line)
    ∷ (margin number ++ codes " | " ++ underline place (chars line))
    ∷ (margin number ++ codes " |")
    ∷ (margin number ++ codes " = " ++ message)
    ∷ [])

-- the printed line that an error keeps, as bytes
abbrev pub error_line : {R : Type 0} → Error R → List ℕ
error_line error = string_bytes (arc_value error.line)

-- the printed text of an error
abbrev pub error_text : {R : Type 0} → Error R → List ℕ
error_text error = printed_error (message_of error.variant) error.line_col (error_line error)
