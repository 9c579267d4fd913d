-- EBNF as W3C writes it, and texts in it that stay texts.
use Rattle.std.specs.Prelude.{ℕ, List, [], ◌∷◌, ◌++◌, Bool, ◌||◌, ◌&&◌, not, ◌==◌, codes, encode_utf8, encode_utf8_all, false, if◌then◌else◌, string_bytes}
use Rattle.std.specs.Char.{is_ascii_alphanumeric, to_ascii_lowercase, to_ascii_uppercase}
use Rattle.std.specs.Fmt.{digits}
use Rattle.std.specs.List.{flat_map}
use Rattle.std.specs.Str.{chars}
use Rattle.doc_markup.specs.Escape.{visible}
use Rattle.doc_markup.specs.declared.ebnf.EbnfWord.{EbnfWord}
use Rattle.doc_markup.specs.declared.ebnf.EbnfWord.TheVariants as word
use Rattle.doc_markup.specs.declared.ebnf.EbnfToken.{EbnfToken}
use Rattle.doc_markup.specs.declared.ebnf.EbnfToken.TheVariants as token

-- a character that stands for itself in a string between `"`
abbrev pub is_plain : ℕ → Bool
is_plain c = not (c == 9 || (c == 10 || c == 34)) && visible c == c

abbrev pub plain_character : ℕ → List ℕ
plain_character c = if is_plain c then c ∷ [] else []

abbrev pub plain_text : List ℕ → List ℕ
plain_text text = encode_utf8_all (flat_map plain_character text)

abbrev pub plain_bytes : List ℕ → List ℕ
plain_bytes text = plain_text (chars text)

-- a character by its number
abbrev pub numbered : ℕ → List ℕ
numbered c = codes "#x" ++ digits 16 false c

-- a bound of a range of characters: a letter or a digit as itself
abbrev pub bound_bytes : ℕ → List ℕ
bound_bytes c = if is_ascii_alphanumeric c then encode_utf8 c else numbered c

-- a letter in both cases
abbrev pub either_case_bytes : ℕ → List ℕ
either_case_bytes c =
    codes "[" ++ bound_bytes (to_ascii_uppercase c) ++ bound_bytes (to_ascii_lowercase c) ++ codes "]"

-- a character of a comment: a slash after a blank
abbrev pub comment_character : ℕ → List ℕ
comment_character c = if c == 47 then codes " /" else visible c ∷ []

abbrev pub comment_bytes : List ℕ → List ℕ
comment_bytes text = encode_utf8_all (flat_map comment_character (chars text))

-- a word
abbrev pub ebnf_word_text : EbnfWord → List ℕ
ebnf_word_text word.Bar = codes " | "
ebnf_word_text word.Blank = codes " "
ebnf_word_text word.Open = codes "("
ebnf_word_text word.Close = codes ")"
ebnf_word_text word.Optional = codes "?"
ebnf_word_text word.Star = codes "*"
ebnf_word_text word.Plus = codes "+"
ebnf_word_text word.RangeStart = codes "["
ebnf_word_text word.RangeMiddle = codes "-"
ebnf_word_text word.RangeEnd = codes "]"
ebnf_word_text word.DoubleQuote = codes "'\"'"
ebnf_word_text word.CommentStart = codes "/* "
ebnf_word_text word.TagStart = codes "/* #"
ebnf_word_text word.CommentEnd = codes " */"
ebnf_word_text word.LineEnd = codes "(#xa | #xd #xa | #xd)"

-- the bytes of a token
abbrev pub ebnf_token_bytes : EbnfToken → List ℕ
ebnf_token_bytes (token.Word w) = ebnf_word_text w
ebnf_token_bytes (token.Name t) = plain_bytes t.now
ebnf_token_bytes (token.String t) = codes "\"" ++ plain_bytes t.now ++ codes "\""
ebnf_token_bytes (token.Numbered c) = numbered c
ebnf_token_bytes (token.EitherCase c) = either_case_bytes c
ebnf_token_bytes (token.Bound c) = bound_bytes c
ebnf_token_bytes (token.Comment t) = comment_bytes t.now
ebnf_token_bytes (token.ComposedComment t) = comment_bytes (string_bytes t)

-- the bytes of tokens, one after another
abbrev pub ebnf_bytes : List EbnfToken → List ℕ
ebnf_bytes = flat_map ebnf_token_bytes
