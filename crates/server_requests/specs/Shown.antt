-- The text of an extent, as it is shown.
use Rattle.std.specs.Prelude.{ℕ, List, [], length, ◌==◌, ◌&&◌, ◌||◌, Bool, nat_le, nat_lt, slice_index, if◌then◌else◌}
use Rattle.server_symbols.specs.Parts.{part}
use Rattle.server_symbols.specs.declared.tokens.Extent.{Extent}

-- whether a character begins at a byte, or the text ends there
abbrev pub is_boundary : List ℕ → ℕ → Bool
is_boundary text k = if nat_lt k (length text)
    then nat_lt (slice_index text k) 128 || nat_le 192 (slice_index text k) else k == length text

-- whether an extent has whole characters
abbrev pub is_whole : List ℕ → Extent → Bool
is_whole text extent =
    nat_le extent.start extent.end && (is_boundary text extent.start && is_boundary text extent.end)

-- the text of an extent, or nothing if it does not have whole characters
abbrev pub shown : List ℕ → Extent → List ℕ
shown text extent = if is_whole text extent then part text extent else []
