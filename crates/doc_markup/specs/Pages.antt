-- Documents of grammars, with all rules in order, by their names and printed expressions.
use Rattle.std.specs.Prelude.{◌≡◌, ℕ, List, [], ◌∷◌, ◌++◌, codes, encode_utf8_all, length, map}
use Rattle.std.specs.Borrow.{Bor}
use Rattle.std.specs.List.{range_with_len}
use Rattle.std.specs.List.Sorted.{IsPermutation}
use Rattle.std.specs.Str.{chars}
use Rattle.base_language.specs.Language.Text.{Text}
use Rattle.base_language.specs.Language.Expression.{Grammar, Rule}
use Rattle.base_ast.specs.Printing.{printed}
use Rattle.doc_markup.specs.Ebnf.{ebnf_bytes, plain_text}
use Rattle.doc_markup.specs.Escape.{escaped_bytes, escaped_text}
use Rattle.doc_markup.specs.Links.{AreLinksWithin, AreMarkdownLinksWithin, links_of, markdown_links}
use Rattle.doc_markup.specs.Markdown.{code_bytes, inline_bytes, inline_text, markdown_bytes}
use Rattle.doc_markup.specs.Template.{body, diagram_style, foot, head, style}
use Rattle.doc_markup.specs.Tokens.{markup_bytes}
use Rattle.doc_markup.specs.declared.ebnf.EbnfToken.{EbnfToken}
use Rattle.doc_markup.specs.declared.markdown.MarkdownToken.{MarkdownToken}
use Rattle.doc_markup.specs.declared.tokens.Markup.{Markup}

-- names of rules, in order
abbrev pub AreNames : Grammar → List (Bor (List ℕ)) → Type 0
AreNames rules names = map (λ name. chars name.now) names ≡ map (λ r. r.name) rules

-- an expression as it is printed, in bytes
abbrev pub printed_bytes : Rule → List ℕ
printed_bytes r = encode_utf8_all (printed r.body)

-- a definition in EBNF
abbrev pub definition_bytes : Rule → List EbnfToken → List ℕ
definition_bytes r body = plain_text r.name ++ codes " ::= " ++ ebnf_bytes body ++ codes "\n"

-- the heading of a section, with a link to the index, and an expression
abbrev pub heading_bytes : Text → List ℕ
heading_bytes name =
    codes "<section id=\"" ++ escaped_text name
    ++ codes "\">\n<a class=\"back\" href=\"#all-rules\">all rules</a>\n<h2>" ++ escaped_text name
    ++ codes "</h2>\n"

abbrev pub expression_bytes : Rule → List ℕ
expression_bytes r =
    codes "<details><summary>Expression</summary>\n<pre><code>" ++ escaped_bytes (printed_bytes r)
    ++ codes "</code></pre></details>\n"

abbrev pub markdown_heading : Text → List ℕ
markdown_heading name =
    codes "## <a id=\"" ++ escaped_text name ++ codes "\"></a>" ++ inline_text name ++ codes "\n\n"

abbrev pub markdown_expression : Rule → List ℕ
markdown_expression r =
    codes "<details><summary>Expression</summary>\n\n    " ++ code_bytes (printed_bytes r)
    ++ codes "\n\n</details>\n\n"

module _ (names : List (Bor (List ℕ))) where
  -- the section of a rule: its name, as which links find it, and its printed expression, among contents
  abbrev pub section_bytes : Rule → List Markup → List Markup → List ℕ
  section_bytes r before after =
      heading_bytes r.name ++ markup_bytes names before ++ expression_bytes r ++ markup_bytes names after
      ++ codes "</section>\n"

  -- a section in Markdown
  abbrev pub markdown_section : Rule → List MarkdownToken → List MarkdownToken → List ℕ
  markdown_section r before after =
      markdown_heading r.name ++ markdown_bytes names before ++ markdown_expression r
      ++ markdown_bytes names after ++ codes "\n"

-- a page up to its heading, and up to its first section
abbrev pub style_start : List ℕ → List ℕ
style_start title = head ++ escaped_bytes title ++ style ++ diagram_style ++ body

abbrev pub index_bytes : List (Bor (List ℕ)) → List Markup → List ℕ
index_bytes names index = codes "<nav id=\"all-rules\">" ++ markup_bytes names index ++ codes "</nav>\n"

abbrev pub page_start : List ℕ → List (Bor (List ℕ)) → (introduction index : List Markup) → List ℕ
page_start title names introduction index =
    style_start title ++ escaped_bytes title ++ codes "</h1>\n" ++ markup_bytes names introduction
    ++ index_bytes names index ++ codes "<main>\n"

abbrev pub markdown_start : List ℕ → List (Bor (List ℕ)) → List MarkdownToken → List ℕ
markdown_start title names introduction =
    codes "# " ++ inline_bytes title ++ codes "\n\n" ++ markdown_bytes names introduction

-- sections of rules, one after another, with links to rules of these names alone
pub data AreSections (names : List (Bor (List ℕ))) : Grammar → List ℕ → Type 0 where
  no_sections : AreSections names [] []
  more_sections : {rules : Grammar} {bytes : List ℕ} (r : Rule) (before after : List Markup)
      → AreLinksWithin (length names) before → AreLinksWithin (length names) after
      → AreSections names rules bytes
      → AreSections names (rules ++ r ∷ []) (bytes ++ section_bytes names r before after)

pub data AreMarkdownSections (names : List (Bor (List ℕ))) : Grammar → List ℕ → Type 0 where
  no_markdown : AreMarkdownSections names [] []
  more_markdown : {rules : Grammar} {bytes : List ℕ} (r : Rule) (before after : List MarkdownToken)
      → AreMarkdownLinksWithin (length names) before → AreMarkdownLinksWithin (length names) after
      → AreMarkdownSections names rules bytes
      → AreMarkdownSections names (rules ++ r ∷ []) (bytes ++ markdown_section names r before after)

pub data AreDefinitions : Grammar → List ℕ → Type 0 where
  no_definitions : AreDefinitions [] []
  more_definitions : {rules : Grammar} {bytes : List ℕ} (r : Rule) (body : List EbnfToken)
      → AreDefinitions rules bytes
      → AreDefinitions (rules ++ r ∷ []) (bytes ++ definition_bytes r body)

-- links to a given number of rules: to each in order, and to each once more
abbrev pub AreIndexLinks : ℕ → List ℕ → Type 0
AreIndexLinks count links = (others : List ℕ) × IsPermutation (range_with_len 0 count) others
    × (links ≡ range_with_len 0 count ++ others)

-- a page of rules, whose index links to each of them
pub record IsPage (title : List ℕ) (rules : Grammar) (page : List ℕ) : Type 0 where
  pub names : List (Bor (List ℕ))
  pub are_names : AreNames rules names
  pub introduction : List Markup
  pub unlinked : links_of introduction ≡ []
  pub index : List Markup
  pub listed : AreIndexLinks (length rules) (links_of index)
  pub sections : List ℕ
  pub are_sections : AreSections names rules sections
  pub whole : page ≡ page_start title names introduction index ++ sections ++ foot

pub record IsMarkdownPage (title : List ℕ) (rules : Grammar) (page : List ℕ) : Type 0 where
  pub names : List (Bor (List ℕ))
  pub are_names : AreNames rules names
  pub introduction : List MarkdownToken
  pub listed : markdown_links introduction ≡ range_with_len 0 (length rules)
  pub sections : List ℕ
  pub are_sections : AreMarkdownSections names rules sections
  pub whole : page ≡ markdown_start title names introduction ++ sections
