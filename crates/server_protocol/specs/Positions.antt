-- Positions in a text, a list of bytes in UTF-8.
use Rattle.std.specs.Prelude.{◌≡◌, ◌≢◌, zero, suc, ◌<◌, ◌≤◌, ◌+◌, ◌-◌, ◌==◌, ◌&&◌, ◌||◌, ◌⊎◌, ℕ, List, Bool, not, nat_lt, if◌then◌else◌, slice_index}
use Rattle.std.specs.Str.{IsCharBoundary}
use Rattle.server_protocol.specs.declared.positions.Encoding.{Encoding}
use Rattle.server_protocol.specs.declared.positions.Encoding.TheVariants.{Utf8, Utf16}
use Rattle.server_protocol.specs.declared.positions.Position.{Position}

-- a line ends after a line feed, and after a carriage return that no line feed follows
abbrev pub ends_line : List ℕ → ℕ → Bool
ends_line text k =
    slice_index text k == 10 || (slice_index text k == 13 && not (slice_index text (k + 1) == 10))

-- the code units that a byte adds: in UTF-8 one; in UTF-16 those of the character that begins with it
abbrev pub units : Encoding → ℕ → ℕ
units Utf8 byte = 1
units Utf16 byte =
    if nat_lt byte 128 then 1 else if nat_lt byte 192 then 0 else if nat_lt byte 240 then 1 else 2

-- the position after a byte: the start of the next line, if a line ends, or else a given number of units
-- further
abbrev pub after_byte : Encoding → List ℕ → ℕ → Position → Position
after_byte encoding text k position =
    if ends_line text k
    then record { line = position.line + 1; character = 0 }
    else record { line = position.line; character = position.character + units encoding (slice_index text k) }

-- the position of a byte: line and character 0 of the first one, and of another that after the byte before
-- it
abbrev pub position_at : Encoding → List ℕ → ℕ → Position
position_at encoding text zero = record { line = 0; character = 0 }
position_at encoding text (suc k) = after_byte encoding text k (position_at encoding text k)

-- a byte that a position can name, or the end: no byte within a character, and none between a carriage
-- return and a line feed
abbrev pub IsPlace : List ℕ → ℕ → Type 0
IsPlace text k = IsCharBoundary text k × (slice_index text k ≡ 10 → slice_index text (k - 1) ≢ 13)

-- one position is at most as far in a text as another one
abbrev pub IsAtMost : Position → Position → Type 0
IsAtMost p q = (p.line < q.line) ⊎ ((p.line ≡ q.line) × (p.character ≤ q.character))

-- a position names the last byte whose own position is at most as far: so a character past the end of its
-- line is the end of that line, and a line past the last one is the end of the text
pub record IsOffset (encoding : Encoding) (text : List ℕ) (position : Position) (offset : ℕ) : Type 0 where
  pub place : IsPlace text offset
  pub reached : IsAtMost (position_at encoding text offset) position
  pub last : (k : ℕ) → IsPlace text k → IsAtMost (position_at encoding text k) position → k ≤ offset
