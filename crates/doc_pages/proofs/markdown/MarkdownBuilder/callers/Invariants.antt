use Rattle.std.proofs.Common.{◌≡◌, ◌++◌, take}
use Rattle.doc_markup.specs.Links.{markdown_links}
use Rattle.doc_pages.proofs.markdown.MarkdownBuilder.callers.Given as goal

abbrev pub invariant-loop-place : goal.invariant-loop-place
invariant-loop-place l =
    markdown_links l.self.tokens.items ≡ markdown_links l.fn.self.tokens.items ++ take l.place l.facts.callers.items
