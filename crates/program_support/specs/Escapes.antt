-- Texts as messages show them.
use Rattle.std.specs.Prelude.{ℕ, ◌+◌, ◌/◌, ◌%◌, List, [], ◌∷◌, ◌++◌, Bool, false, ◌||◌, ◌&&◌, ◌==◌, nat_le, nat_lt, codes, encode_utf8_all, if◌then◌else◌}
use Rattle.std.specs.Char.Escape.{encode_utf16, escape_unicode}
use Rattle.std.specs.List.{flat_map}
use Rattle.std.specs.Str.{chars}

abbrev pub is_between : ℕ → ℕ → ℕ → Bool
is_between low high c = nat_le low c && nat_le c high

-- a control character, or one that formats a text and has no shape of its own
abbrev pub is_hidden : ℕ → Bool
is_hidden c = is_between 0 0x1f c || is_between 0x7f 0x9f c || c == 0xad || c == 0x61c || c == 0x180e
    || is_between 0x200b 0x200f c || is_between 0x2028 0x202e c || is_between 0x2060 0x206f c || c == 0xfeff
    || is_between 0xfff9 0xfffb c || is_between 0x13430 0x1343f c || is_between 0x1bca0 0x1bca3 c
    || is_between 0x1d173 0x1d17a c || c == 0xe0001 || is_between 0xe0020 0xe007f c

-- a hidden character other than a tab and a line feed
abbrev pub is_hidden_in_lines : ℕ → Bool
is_hidden_in_lines c = if c == 9 || c == 10 then false else is_hidden c

-- the character, or its escape
abbrev pub shown_character : Bool → ℕ → List ℕ
shown_character is_escaped c = if is_escaped then escape_unicode c else c ∷ []

-- a text in bytes, with escapes of hidden characters
abbrev pub escaped_bytes : List ℕ → List ℕ
escaped_bytes text = encode_utf8_all (flat_map (λ c. shown_character (is_hidden c) c) (chars text))

abbrev pub escaped_lines : List ℕ → List ℕ
escaped_lines text = encode_utf8_all (flat_map (λ c. shown_character (is_hidden_in_lines c) c) (chars text))

-- a hexadecimal digit, and a number below 65536 as four
abbrev pub hex_digit : ℕ → ℕ
hex_digit n = if nat_lt n 10 then 48 + n else 87 + n

abbrev pub four_digits : ℕ → List ℕ
four_digits n = hex_digit (n / 4096 % 16) ∷ hex_digit (n / 256 % 16) ∷ hex_digit (n / 16 % 16)
    ∷ hex_digit (n % 16) ∷ []

-- the escape of a character in a string of JSON: that of each of its units in UTF-16
abbrev pub json_escape : ℕ → List ℕ
json_escape c = flat_map (λ unit. codes "\\u" ++ four_digits unit) (encode_utf16 c)

-- the character, or its escape
abbrev pub json_character : ℕ → List ℕ
json_character c = if is_hidden c then json_escape c else c ∷ []

-- a text of JSON in bytes, with escapes of hidden characters
abbrev pub escaped_json : List ℕ → List ℕ
escaped_json text = encode_utf8_all (flat_map json_character (chars text))
