-- The lexemes of a text.
use Rattle.std.specs.Prelude.{◌≡◌, ◌≢◌, ◌⊎◌, ◌<◌, ◌+◌, ◌-◌, ◌==◌, ◌&&◌, ◌||◌, ℕ, List, [], ◌∷◌, Bool, true, false, Option, Some, None, drop, length, nat_lt, not, option_map, slice_index, take_while, if◌then◌else◌}
use Rattle.std.specs.Char.{is_ascii_digit}
use Rattle.server_symbols.specs.NewNames.{is_first, is_other}
use Rattle.server_symbols.specs.declared.tokens.Token.{Token}
use Rattle.server_symbols.specs.declared.tokens.TokenClass.{TokenClass}
use Rattle.server_symbols.specs.declared.tokens.TokenClass.TheVariants as class

abbrev pub is_blank : ℕ → Bool
is_blank byte = byte == 32 || byte == 9 || byte == 13 || byte == 10

abbrev pub is_line_end : ℕ → Bool
is_line_end byte = byte == 10 || byte == 13

-- whether a byte is of a character beyond ASCII
abbrev pub is_wide : ℕ → Bool
is_wide byte = nat_lt 127 byte

-- where the bytes end that pass a test, from a byte on
abbrev pub run_end : (ℕ → Bool) → List ℕ → ℕ → ℕ
run_end p text start = start + length (take_while p (drop start text))

-- where a line ends, before its line end
abbrev pub line_end : List ℕ → ℕ → ℕ
line_end text start = run_end (λ byte. not (is_line_end byte)) text start

-- whether a byte closes a string, after a backslash that escapes it or not
abbrev pub is_closing_quote : Bool → ℕ → Bool
is_closing_quote is_escaped byte = byte == 34 && not is_escaped

-- whether it escapes the next byte
abbrev pub is_escape : Bool → ℕ → Bool
is_escape is_escaped byte = byte == 92 && not is_escaped

-- how many bytes a string has after its opening quote: those up to the quote that closes it, which no
-- backslash escapes, or up to the line's end
abbrev pub string_len : Bool → List ℕ → ℕ
string_len is_escaped [] = 0
string_len is_escaped (byte ∷ bytes) = if is_line_end byte then 0
    else if is_closing_quote is_escaped byte then 1 else 1 + string_len (is_escape is_escaped byte) bytes

abbrev pub string_end : List ℕ → ℕ → ℕ
string_end text start = start + string_len false (drop start text)

-- how many bytes a character has up to the quote that closes it, which comes in its line, and after at least
-- a given number of bytes
abbrev pub character_len : ℕ → List ℕ → Option ℕ
character_len least [] = None
character_len least (byte ∷ bytes) = if is_line_end byte then None
    else if byte == 39 && least == 0 then Some 1
    else option_map (λ n. 1 + n) (character_len (least - 1) bytes)

-- how many bytes a character has at least, before its closing quote: two where the first one is a backslash
abbrev pub least_len : List ℕ → ℕ → ℕ
least_len text start = if slice_index text start == 92 then 2 else 1

abbrev pub character_end : List ℕ → ℕ → Option ℕ
character_end text start =
    option_map (λ n. start + n) (character_len (least_len text start) (drop start text))

-- whether two neighbouring bytes close a block comment
abbrev pub is_block_end : ℕ → ℕ → Bool
is_block_end last byte = last == 42 && byte == 47

-- whether they open one
abbrev pub is_block_start : ℕ → ℕ → Bool
is_block_start last byte = last == 47 && byte == 42

-- how many comments are open in a block comment after two neighbouring bytes
abbrev pub inner_after : ℕ → ℕ → ℕ → ℕ
inner_after inner last byte = if is_block_end last byte then inner - 1
    else if is_block_start last byte then inner + 1 else inner

-- the second of two neighbouring bytes; a blank for one that has closed or opened a comment
abbrev pub last_after : ℕ → ℕ → ℕ
last_after last byte = if is_block_end last byte || is_block_start last byte then 32 else byte

-- how many bytes there are up to the end of a block comment in which a given number of others are open, after
-- a byte
abbrev pub block_len : ℕ → ℕ → List ℕ → ℕ
block_len inner last [] = 0
block_len inner last (byte ∷ bytes) = if is_block_end last byte && inner == 0 then 1
    else 1 + block_len (inner_after inner last byte) (last_after last byte) bytes

abbrev pub block_end : List ℕ → ℕ → ℕ
block_end text start = start + block_len 0 32 (drop start text)

-- a byte is a sign wherever it is
pub record IsPlain (byte : ℕ) : Type 0 where
  pub no_blank : is_blank byte ≡ false
  pub no_letter : is_first byte ≡ false
  pub no_digit : is_ascii_digit byte ≡ false
  pub no_wide : is_wide byte ≡ false
  pub no_quote : (byte ≢ 34) × (byte ≢ 39)
  pub no_start : (byte ≢ 35) × (byte ≢ 47)

-- `#`, a quote or a slash with which no longer lexeme begins
abbrev pub IsLone : List ℕ → ℕ → ℕ → Type 0
IsLone text byte after = ((byte ≡ 35) × (run_end is_other text after ≡ after))
    ⊎ ((byte ≡ 39) × (character_end text after ≡ None))
    ⊎ ((byte ≡ 47) × (slice_index text after ≢ 47) × (slice_index text after ≢ 42))

-- two slashes, and the line after them
abbrev pub IsLineComment : List ℕ → ℕ → ℕ → Type 0
IsLineComment text start end = (slice_index text start ≡ 47) × (slice_index text (start + 1) ≡ 47)
    × (end ≡ line_end text (start + 2))

-- `/*`, and what follows up to the `*/` that closes it
abbrev pub IsBlockComment : List ℕ → ℕ → ℕ → Type 0
IsBlockComment text start end = (slice_index text start ≡ 47) × (slice_index text (start + 1) ≡ 42)
    × (end ≡ block_end text (start + 2))

-- a third slash stands at a byte, and no fourth one
abbrev pub IsDoc : List ℕ → ℕ → Type 0
IsDoc text third = (slice_index text third ≡ 47) × (slice_index text (third + 1) ≢ 47)

-- the bytes from one up to another are a lexeme of a class
abbrev pub IsLexeme : List ℕ → TokenClass → ℕ → ℕ → Type 0
IsLexeme text class.Name start end = (is_first (slice_index text start) ≡ true)
    × (end ≡ run_end is_other text (start + 1))
IsLexeme text class.Tag start end = (slice_index text start ≡ 35) × (start + 1 < end)
    × (end ≡ run_end is_other text (start + 1))
IsLexeme text class.Number start end = (is_ascii_digit (slice_index text start) ≡ true)
    × (end ≡ run_end is_ascii_digit text (start + 1))
IsLexeme text class.Text start end = (slice_index text start ≡ 34) × (end ≡ string_end text (start + 1))
IsLexeme text class.Character start end = (slice_index text start ≡ 39)
    × (character_end text (start + 1) ≡ Some end)
IsLexeme text class.Comment start end = IsBlockComment text start end ⊎ (IsLineComment text start end
    × (slice_index text (start + 2) ≢ 33) × ¬ (IsDoc text (start + 2)))
IsLexeme text class.Doc start end = IsLineComment text start end × IsDoc text (start + 2)
IsLexeme text class.GrammarDoc start end = IsLineComment text start end
    × (slice_index text (start + 2) ≡ 33)
IsLexeme text (class.Sign byte) start end = (slice_index text start ≡ byte) × (end ≡ start + 1)
    × (IsPlain byte ⊎ IsLone text byte (start + 1))
IsLexeme text class.Unknown start end = (is_wide (slice_index text start) ≡ true)
    × (end ≡ run_end is_wide text (start + 1))

-- what begins at a byte: white space, or a lexeme of a class
abbrev pub IsNext : List ℕ → ℕ → Option TokenClass → ℕ → Type 0
IsNext text start None end = (is_blank (slice_index text start) ≡ true) × (end ≡ start + 1)
IsNext text start (Some class) end =
    (is_blank (slice_index text start) ≡ false) × IsLexeme text class start end

-- a token, if a class is given
abbrev pub token_at : Option TokenClass → ℕ → ℕ → List Token
token_at None start end = []
token_at (Some class) start end = record { class = class; start = start; end = end } ∷ []

-- tokens are the lexemes from a byte on, with white space before, between and after them
abbrev pub AreTokensFrom : List ℕ → ℕ → List Token → Type 0
AreTokensFrom text start [] = run_end is_blank text start ≡ length text
AreTokensFrom text start (token ∷ tokens) = (token.start ≡ run_end is_blank text start)
    × IsLexeme text token.class token.start token.end × AreTokensFrom text token.end tokens

abbrev pub AreTokens : List ℕ → List Token → Type 0
AreTokens text tokens = AreTokensFrom text 0 tokens
