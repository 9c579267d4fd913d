-- Places of a text that are known by line and column, and lines of it that are known as they are printed.
use Rattle.std.specs.Prelude.{◌≡◌, ℕ, ◌+◌, ◌≤◌, ◌==◌, List, All, length, if◌then◌else◌, string_bytes}
use Rattle.std.specs.Arc.{arc_value}
use Rattle.std.specs.Str.{IsCharBoundary, chars}
use Rattle.base_language.specs.Pieces.LineColumn.{line_column, last_line}
use Rattle.base_language.specs.Pieces.PrintedError.{printed_line}
use Rattle.base_language.specs.declared.runtime.surveys.Landmark.{Landmark}
use Rattle.base_language.specs.declared.runtime.surveys.KnownLine.{KnownLine}

-- the column after a piece of a text that begins at this column
abbrev pub column_behind : ℕ → List ℕ → ℕ
column_behind column passed =
    (if length (last_line passed) == length passed then column else 1) + length (chars (last_line passed))

-- where every text begins
abbrev pub start : Landmark
start = record { place = 0; line = 1; column = 1 }

-- a position between two characters, with its line and its column
pub record IsLandmark (text : List ℕ) (landmark : Landmark) : Type 0 where
  pub between : IsCharBoundary text landmark.place
  pub line_column : (landmark.line, landmark.column) ≡ line_column text landmark.place
  pub from_one : 1 ≤ landmark.column
  pub fits : landmark.column ≤ landmark.place + 1

abbrev pub AreLandmarks : List ℕ → List Landmark → Type 0
AreLandmarks text landmarks = All (IsLandmark text) landmarks

-- the line of a position, as it is printed
pub record IsKnownLine (text : List ℕ) (known : KnownLine) : Type 0 where
  pub landmark : IsLandmark text known.landmark
  pub line : string_bytes (arc_value known.line) ≡ printed_line text known.landmark.place
