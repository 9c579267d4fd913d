-- The rules to which markup links.
use Rattle.std.specs.Prelude.{◌<◌, ℕ, List, [], ◌∷◌}
use Rattle.std.specs.List.{All, flat_map}
use Rattle.doc_markup.specs.declared.markdown.MarkdownToken.{MarkdownToken}
use Rattle.doc_markup.specs.declared.markdown.MarkdownToken.TheVariants as markdown
use Rattle.doc_markup.specs.declared.tokens.Markup.{Markup}
use Rattle.doc_markup.specs.declared.tokens.Markup.TheVariants as token

abbrev pub token_links : Markup → List ℕ
token_links (token.Link r) = r ∷ []
token_links _ = []

-- the numbers of the rules, in the order of their links
abbrev pub links_of : List Markup → List ℕ
links_of = flat_map token_links

-- tokens that link to the first rules alone, of a given number
abbrev pub AreLinksWithin : ℕ → List Markup → Type 0
AreLinksWithin n tokens = All (λ r. r < n) (links_of tokens)

-- the rules to which Markdown links
abbrev pub markdown_token_links : MarkdownToken → List ℕ
markdown_token_links (markdown.RuleLink r) = r ∷ []
markdown_token_links _ = []

abbrev pub markdown_links : List MarkdownToken → List ℕ
markdown_links = flat_map markdown_token_links

abbrev pub AreMarkdownLinksWithin : ℕ → List MarkdownToken → Type 0
AreMarkdownLinksWithin n tokens = All (λ r. r < n) (markdown_links tokens)
