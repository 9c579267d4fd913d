-- Texts in markup, no part of which is markup.
use Rattle.std.specs.Prelude.{ℕ, List, [], ◌∷◌, ◌++◌, Bool, ◌||◌, ◌==◌, codes, encode_utf8, encode_utf8_all, false, if◌then◌else◌}
use Rattle.std.specs.Fmt.{digits}
use Rattle.std.specs.List.{flat_map}
use Rattle.std.specs.Str.{chars}
use Rattle.base_language.specs.Language.Builtins.{is_between}

-- a control character other than a tab and a line feed
abbrev pub is_hidden : ℕ → Bool
is_hidden c = is_between 0 8 c || (is_between 11 31 c || is_between 0x7f 0x9f c)

-- a character that changes the direction of a line, ends it, is a mark of the byte order, or is none of XML
abbrev pub is_format : ℕ → Bool
is_format c = c == 0x61c || (is_between 0x200e 0x200f c || (is_between 0x2028 0x202e c
    || (is_between 0x2066 0x206f c || (c == 0xfeff || is_between 0xfffe 0xffff c))))

-- a character as it is shown: U+FFFD for one that is not
abbrev pub visible : ℕ → ℕ
visible c = if is_hidden c || is_format c then 0xfffd else c

-- a character as it is written in markup
abbrev pub escaped_character : ℕ → List ℕ
escaped_character c =
    if c == 60 then codes "&lt;"
    else if c == 62 then codes "&gt;"
    else if c == 38 then codes "&amp;"
    else if c == 34 then codes "&quot;"
    else if c == 39 then codes "&#39;"
    else visible c ∷ []

-- a text as it is written in markup: its characters, their bytes, and those for a text in bytes
abbrev pub escaped : List ℕ → List ℕ
escaped = flat_map escaped_character

abbrev pub escaped_text : List ℕ → List ℕ
escaped_text text = encode_utf8_all (escaped text)

abbrev pub escaped_bytes : List ℕ → List ℕ
escaped_bytes text = escaped_text (chars text)

-- a character as a terminal shows it: one that is not shown as its escape
abbrev pub visible_character : ℕ → List ℕ
visible_character c =
    if visible c == c then encode_utf8 c else codes "\\u{" ++ digits 16 false c ++ codes "}"

abbrev pub visible_bytes : List ℕ → List ℕ
visible_bytes text = flat_map visible_character (chars text)
