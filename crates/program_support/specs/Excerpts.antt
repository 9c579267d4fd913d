-- Excerpts of lines.
use Rattle.std.specs.Prelude.{◌≡◌, ℕ, ◌-◌, ◌^◌, ◌==◌, List, [], ◌∷◌, ◌++◌, Bool, false, chars, codes, decimal, if◌then◌else◌, length, min, nat_lt, sum_by, take, unwrap_or}
use Rattle.std.specs.Char.Escape.{escape_unicode}
use Rattle.std.specs.List.{flat_map, repeat}
use Rattle.unicode_width.specs.Width.{char_width}
use Rattle.base_language.specs.Pieces.PrintedError.{error_line, marked_count, start_of}
use Rattle.base_language.specs.declared.runtime.errors.LineColLocation.{LineColLocation}
use Rattle.base_language.specs.declared.runtime.errors.LineColLocation.TheVariants.{Pos, Span}
use Rattle.base_language.specs.declared.grammar.Rule.{Rule}
use Rattle.base_language.specs.declared.runtime.errors.Error.{Error}
use Rattle.program_support.specs.Escapes.{escaped_lines, is_hidden_in_lines}

-- a text contains a part
pub record IsPartOf (text part : List ℕ) : Type 0 where
  pub before : List ℕ
  pub after : List ℕ
  pub whole : text ≡ before ++ (part ++ after)

-- a blank for each digit of a number
abbrev pub margin : ℕ → List ℕ
margin number = repeat (length (decimal number)) (codes " ")

-- `…` if a line is cut
abbrev pub dots : Bool → List ℕ
dots is_cut = if is_cut then 226 ∷ 128 ∷ 166 ∷ [] else []

-- what is shown of a line in four parts: the middle ones, with escapes of hidden characters, and dots for
-- each of the others that is not empty
abbrev pub shown_part : List ℕ → List ℕ → List ℕ → List ℕ → List ℕ
shown_part hidden_before before after hidden_after = dots (nat_lt 0 (length hidden_before))
    ++ (escaped_lines before ++ (escaped_lines after ++ dots (nat_lt 0 (length hidden_after))))

-- the columns of a character on a terminal: those of its escape if it is hidden, and one for a tab
abbrev pub shown_width : ℕ → ℕ
shown_width c = if is_hidden_in_lines c then length (escape_unicode c) else unwrap_or (char_width false c) 1

-- the columns of characters, as far as they can be counted
abbrev pub columns_of : List ℕ → ℕ
columns_of characters = min (sum_by shown_width characters) (2 ^ 64 - 1)

-- what stands below a character: a tab below a tab, or a blank for each column
abbrev pub blanks_below : ℕ → List ℕ
blanks_below c = if c == 9 then codes "\t" else repeat (shown_width c) (codes " ")

-- a mark of a given number of columns, at least one, without its end if it is cut
abbrev pub dashes : ℕ → Bool → List ℕ
dashes columns is_cut = codes "^" ++ (if nat_lt columns 2 then []
    else repeat (columns - 2) (codes "-") ++ (if is_cut then codes "-" else codes "^"))

-- the mark of a place: of a span it is as wide as what is shown of the characters that it marks
abbrev pub mark_at : LineColLocation → List ℕ → List ℕ → List ℕ
mark_at (Pos place) line after = codes "^---"
mark_at (Span start end) line after = let count = marked_count start end line in
    dashes (columns_of (take count after)) (nat_lt (length after) count)

-- the mark below what is shown of a line: it begins below the place
abbrev pub mark_below : LineColLocation → List ℕ → List ℕ → List ℕ → List ℕ → List ℕ
mark_below place line hidden_before before after =
    (if nat_lt 0 (length hidden_before) then codes " " else [])
    ++ (flat_map blanks_below before ++ mark_at place line after)

-- an empty line, the line of a number, and a mark
abbrev pub excerpt_lines : ℕ → List ℕ → List ℕ → List ℕ
excerpt_lines number shown mark = margin number ++ (codes " |\n" ++ (decimal number ++ (codes " | "
    ++ (shown ++ (codes "\n" ++ (margin number ++ (codes " | " ++ (mark ++ codes "\n"))))))))

-- these lines show the line of an error in two parts, between which the place of the error lies, with dots
-- for what is not shown, and a mark below the place
pub record IsExcerpt (error : Error Rule) (lines : List ℕ) : Type 0 where
  pub hidden_before : List ℕ
  pub before : List ℕ
  pub after : List ℕ
  pub hidden_after : List ℕ
  pub line : error_line error ≡ hidden_before ++ (before ++ (after ++ hidden_after))
  pub place : chars (hidden_before ++ before)
      ≡ take ((start_of error.line_col).1 - 1) (chars (error_line error))
  pub whole : lines ≡ excerpt_lines (start_of error.line_col).0
      (shown_part hidden_before before after hidden_after)
      (mark_below error.line_col (chars (error_line error)) hidden_before (chars before) (chars after))
