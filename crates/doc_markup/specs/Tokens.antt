-- The bytes of markup.
use Rattle.std.specs.Prelude.{ℕ, ◌++◌, List, [], Option, Some, None, codes, slice_get, string_bytes}
use Rattle.std.specs.Borrow.{Bor}
use Rattle.std.specs.Fmt.{decimal}
use Rattle.std.specs.List.{flat_map}
use Rattle.doc_markup.specs.Escape.{escaped_bytes}
use Rattle.doc_markup.specs.Vocabulary.{attribute_name, class_name, command_text, tag_name}
use Rattle.doc_markup.specs.declared.tokens.Markup.{Markup}
use Rattle.doc_markup.specs.declared.tokens.Markup.TheVariants as token
use Rattle.doc_markup.specs.Template.{diagram_style, namespace}

-- a rule's name
abbrev pub name_bytes : Option (Bor (List ℕ)) → List ℕ
name_bytes None = []
name_bytes (Some name) = escaped_bytes name.now

-- a link to a rule of this name
abbrev pub link_bytes : Option (Bor (List ℕ)) → List ℕ
link_bytes None = []
link_bytes (Some name) = codes " href=\"#" ++ escaped_bytes name.now ++ codes "\""

module _ (names : List (Bor (List ℕ))) where
  -- the bytes of a token
  abbrev pub token_bytes : Markup → List ℕ
  token_bytes (token.Open t) = codes "<" ++ tag_name t
  token_bytes token.TagEnd = codes ">"
  token_bytes token.EmptyTagEnd = codes "/>"
  token_bytes (token.Close t) = codes "</" ++ tag_name t ++ codes ">"
  token_bytes (token.Attribute a) = codes " " ++ attribute_name a ++ codes "=\""
  token_bytes token.Quote = codes "\""
  token_bytes (token.Class c) = codes " class=\"" ++ class_name c ++ codes "\""
  token_bytes token.Namespace = namespace
  token_bytes token.Style = codes "<style>\n" ++ diagram_style ++ codes "</style>\n"
  token_bytes token.LineFeed = codes "\n"
  token_bytes (token.Command c) = command_text c
  token_bytes (token.Number n) = decimal n
  token_bytes (token.Text t) = escaped_bytes t.now
  token_bytes (token.Label t) = escaped_bytes (string_bytes t)
  token_bytes (token.RuleName r) = name_bytes (slice_get names r)
  token_bytes (token.Link r) = link_bytes (slice_get names r)

  -- the bytes of tokens, one after another
  abbrev pub markup_bytes : List Markup → List ℕ
  markup_bytes = flat_map token_bytes
