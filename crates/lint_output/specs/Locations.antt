-- Lines and columns of a text's bytes.
use Rattle.std.specs.Prelude.{◌≡◌, ◌<◌, ◌≤◌, ℕ, ◌+◌, ◌*◌, ◌-◌, Bool, ◌||◌, EachIndex, List, Some, count_by, length, nat_le, nat_lt, slice_get, take}
use Rattle.base_language.specs.Pieces.LineColumn.{last_line, line_number}
use Rattle.lint_output.specs.declared.lines.LineIndex.{LineIndex}
use Rattle.lint_output.specs.declared.lines.Location.{Location}

-- a character of UTF-8 begins with this byte
abbrev pub begins_character : ℕ → Bool
begins_character byte = nat_lt byte 128 || nat_le 192 byte

-- the line and the column of a place, both from 1, and the byte at which its line begins
abbrev pub location_at : List ℕ → ℕ → Location
location_at text place = record {
  line = line_number text place;
  column = 1 + count_by begins_character (last_line (take place text));
  line_start = length (take place text) - length (last_line (take place text));
}

-- these are the locations of each 256th byte before a place
pub record AreCheckpoints (text : List ℕ) (place : ℕ) (checkpoints : List Location) : Type 0 where
  pub enough : place ≤ 256 * length checkpoints
  pub few : 256 * length checkpoints < place + 256
  pub each : EachIndex checkpoints (λ k. slice_get checkpoints k ≡ Some (location_at text (256 * k)))

-- the index has the locations of each 256th byte of the text
abbrev pub IsIndexOf : List ℕ → LineIndex → Type 0
IsIndexOf text index = AreCheckpoints text (length text + 1) index.checkpoints.items
