-- Token trees as lines of text.
use Rattle.std.specs.Prelude.{ℕ, ◌+◌, ◌&&◌, ◌||◌, Bool, List, [], ◌++◌, codes, encode_utf8_all, if◌then◌else◌, length, nat_le, nat_lt, slice_index, slice_range}
use Rattle.std.specs.List.{repeat}
use Rattle.std.specs.Str.{chars}
use Rattle.base_language.specs.Language.State.{Trees, None', Tree}
use Rattle.base_ast.specs.Printing.{literal}

-- a position is between two characters of a text, at its start or at its end
abbrev pub is_boundary : List ℕ → ℕ → Bool
is_boundary text i = nat_le i (length text)
    && (nat_le (length text) i || (nat_lt (slice_index text i) 128 || nat_le 192 (slice_index text i)))

-- the part of a text between two positions, or nothing if they are not between characters in this order
abbrev pub part : List ℕ → ℕ → ℕ → List ℕ
part text i j =
    if nat_le i j && (is_boundary text i && is_boundary text j) then slice_range text i j else []

-- the part of a text between two positions in quotes, and the end of a line
abbrev pub leaf : List ℕ → ℕ → ℕ → List ℕ
leaf text i j = codes ": " ++ encode_utf8_all (literal 34 (chars (part text i j))) ++ codes "\n"

-- two blanks for each level, and a dash
abbrev pub line_start : ℕ → List ℕ
line_start level = repeat level (codes "  ") ++ codes "- "

abbrev mutual
  -- trees, each on a line of its own
  pub shown : List ℕ → ℕ → Trees → List ℕ
  shown text level None' = []
  shown text level (Tree r i j inner others) =
      line_start level ++ encode_utf8_all r ++ behind text level i j inner ++ shown text level others

  -- the text after the name of a tree: its part of the text if it holds no tree, the one tree that it
  -- holds, or all that it holds on lines further in
  pub behind : List ℕ → ℕ → ℕ → ℕ → Trees → List ℕ
  behind text level i j None' = leaf text i j
  behind text level i j (Tree r k l inner None') =
      codes " > " ++ encode_utf8_all r ++ behind text level k l inner
  behind text level i j (Tree r k l inner others) =
      codes "\n" ++ line_start (level + 1) ++ encode_utf8_all r ++ behind text (level + 1) k l inner
      ++ shown text (level + 1) others
