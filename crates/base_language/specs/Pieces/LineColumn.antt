-- Lines and columns of a text, both counted from 1.
use Rattle.std.specs.Prelude.{ℕ, ◌+◌, ◌==◌, Bool, List, ◌++◌, take, drop, length, count_by}
use Rattle.std.specs.List.{before_first, after_last}
use Rattle.std.specs.Str.{chars}

-- the byte ends a line
abbrev pub is_line_feed : ℕ → Bool
is_line_feed byte = byte == 10

-- the suffix of a text after its last line feed, or all of it if there is none
abbrev pub last_line : List ℕ → List ℕ
last_line text = after_last is_line_feed text

-- the prefix of a text before its first line feed, or all of it if there is none
abbrev pub first_line : List ℕ → List ℕ
first_line text = before_first is_line_feed text

-- 1 and the number of line feeds before a position
abbrev pub line_number : List ℕ → ℕ → ℕ
line_number text place = 1 + count_by is_line_feed (take place text)

-- 1 and the number of characters between the last line feed before a position and the position
abbrev pub column_number : List ℕ → ℕ → ℕ
column_number text place = 1 + length (chars (last_line (take place text)))

-- a position as its line and its column
abbrev pub line_column : List ℕ → ℕ → ℕ × ℕ
line_column text place = (line_number text place, column_number text place)

-- the line of a position, without the line feed that ends it
abbrev pub line_around : List ℕ → ℕ → List ℕ
line_around text place = last_line (take place text) ++ first_line (drop place text)
