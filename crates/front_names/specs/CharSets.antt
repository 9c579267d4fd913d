-- The names of sets of characters, and their characters.
use Rattle.std.specs.Prelude.{ℕ, Bool, true, ◌||◌, codes}
use Rattle.base_language.specs.Language.Text.{Text}
use Rattle.base_language.specs.Language.Builtins.{is_between, is_letter, is_lower, is_upper}
use Rattle.front_names.specs.declared.char_set.CharSet.{CharSet}
use Rattle.front_names.specs.declared.char_set.CharSet.TheVariants as set

abbrev pub set_name : CharSet → Text
set_name set.Any = codes "ANY"
set_name set.AsciiDigit = codes "ASCII_DIGIT"
set_name set.AsciiNonzeroDigit = codes "ASCII_NONZERO_DIGIT"
set_name set.AsciiBinDigit = codes "ASCII_BIN_DIGIT"
set_name set.AsciiOctDigit = codes "ASCII_OCT_DIGIT"
set_name set.AsciiHexDigit = codes "ASCII_HEX_DIGIT"
set_name set.AsciiAlphaLower = codes "ASCII_ALPHA_LOWER"
set_name set.AsciiAlphaUpper = codes "ASCII_ALPHA_UPPER"
set_name set.AsciiAlpha = codes "ASCII_ALPHA"
set_name set.AsciiAlphanumeric = codes "ASCII_ALPHANUMERIC"
set_name set.Ascii = codes "ASCII"

abbrev pub has_character : CharSet → ℕ → Bool
has_character set.Any c = true
has_character set.AsciiDigit c = is_between 48 57 c
has_character set.AsciiNonzeroDigit c = is_between 49 57 c
has_character set.AsciiBinDigit c = is_between 48 49 c
has_character set.AsciiOctDigit c = is_between 48 55 c
has_character set.AsciiHexDigit c = is_between 48 57 c || (is_between 97 102 c || is_between 65 70 c)
has_character set.AsciiAlphaLower c = is_lower c
has_character set.AsciiAlphaUpper c = is_upper c
has_character set.AsciiAlpha c = is_letter c
has_character set.AsciiAlphanumeric c = is_letter c || is_between 48 57 c
has_character set.Ascii c = is_between 0 127 c
