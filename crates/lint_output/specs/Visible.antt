-- Texts as they are shown.
use Rattle.std.specs.Prelude.{ℕ, ◌+◌, ◌==◌, List, [], ◌∷◌, codes, encode_utf8_all, if◌then◌else◌, nat_lt}
use Rattle.std.specs.List.{flat_map}
use Rattle.std.specs.Str.{chars}
use Rattle.program_support.specs.Escapes.{is_hidden}

-- a character, or a picture of one that might change how the others are shown
abbrev pub picture : ℕ → ℕ
picture c = if nat_lt c 0x20 then c + 0x2400
    else if c == 0x7f then 0x2421
    else if is_hidden c then 0xfffd else c

-- the same, and four blanks for a tab
abbrev pub shown : ℕ → List ℕ
shown c = if c == 9 then codes "    " else picture c ∷ []

-- a text in which each character is written so
abbrev pub written_by : (ℕ → List ℕ) → List ℕ → List ℕ
written_by write text = encode_utf8_all (flat_map write (chars text))

abbrev pub visible : List ℕ → List ℕ
visible text = written_by shown text
