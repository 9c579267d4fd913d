-- Markdown, and texts in it, no part of which is Markdown.
use Rattle.std.specs.Prelude.{ℕ, List, [], ◌∷◌, ◌++◌, Bool, ◌||◌, ◌==◌, Option, Some, None, codes, encode_utf8_all, if◌then◌else◌, slice_get, string_bytes}
use Rattle.std.specs.Borrow.{Bor}
use Rattle.std.specs.List.{flat_map}
use Rattle.std.specs.Str.{chars}
use Rattle.base_language.specs.Language.Builtins.{is_between}
use Rattle.doc_markup.specs.Escape.{visible}
use Rattle.doc_markup.specs.declared.markdown.MarkdownWord.{MarkdownWord}
use Rattle.doc_markup.specs.declared.markdown.MarkdownWord.TheVariants as word
use Rattle.doc_markup.specs.declared.markdown.MarkdownToken.{MarkdownToken}
use Rattle.doc_markup.specs.declared.markdown.MarkdownToken.TheVariants as token

-- an ASCII punctuation character
abbrev pub is_punctuation : ℕ → Bool
is_punctuation c = is_between 33 47 c || (is_between 58 64 c || (is_between 91 96 c || is_between 123 126 c))

-- a character of a text in a line: punctuation after a backslash, a tab or a line feed as a blank
abbrev pub inline_character : ℕ → List ℕ
inline_character c =
    if c == 9 || c == 10 then 32 ∷ []
    else if is_punctuation c then 92 ∷ c ∷ []
    else visible c ∷ []

abbrev pub inline_text : List ℕ → List ℕ
inline_text text = encode_utf8_all (flat_map inline_character text)

abbrev pub inline_bytes : List ℕ → List ℕ
inline_bytes text = inline_text (chars text)

-- a character of a block of code, in which lines after the first are indented
abbrev pub code_character : ℕ → List ℕ
code_character c = if c == 10 then codes "\n    " else visible c ∷ []

abbrev pub code_bytes : List ℕ → List ℕ
code_bytes text = encode_utf8_all (flat_map code_character (chars text))

-- a word of Markdown
abbrev pub word_text : MarkdownWord → List ℕ
word_text word.Item = codes "- "
word_text word.CodeBlock = codes "    "
word_text word.CodeStart = codes "<code>"
word_text word.CodeEnd = codes "</code>"
word_text word.Emphasis = codes "*"
word_text word.LineFeed = codes "\n"
word_text word.BlockEnd = codes "\n\n"
word_text word.Comma = codes ", "
word_text word.UsedIn = codes "Used in: "
word_text word.NoOtherRule = codes "no other rule"
word_text word.Implicitly = codes "sequences and repetitions, implicitly"
word_text word.BeginsWith = codes "Begins with: "
word_text word.AndMore = codes " and more"
word_text word.MayMatchNothing = codes "May match nothing"
word_text word.Warning = codes "Warning: "
word_text word.Colon = codes ": "

-- a link to a rule of this name
abbrev pub rule_link_bytes : Option (Bor (List ℕ)) → List ℕ
rule_link_bytes None = []
rule_link_bytes (Some name) =
    codes "[" ++ inline_bytes name.now ++ codes "](#" ++ inline_bytes name.now ++ codes ")"

module _ (names : List (Bor (List ℕ))) where
  -- the bytes of a token
  abbrev pub markdown_token_bytes : MarkdownToken → List ℕ
  markdown_token_bytes (token.Word w) = word_text w
  markdown_token_bytes (token.Text t) = inline_bytes t.now
  markdown_token_bytes (token.Label t) = inline_bytes (string_bytes t)
  markdown_token_bytes (token.Code t) = code_bytes t.now
  markdown_token_bytes (token.RuleLink r) = rule_link_bytes (slice_get names r)

  -- the bytes of tokens, one after another
  abbrev pub markdown_bytes : List MarkdownToken → List ℕ
  markdown_bytes = flat_map markdown_token_bytes
