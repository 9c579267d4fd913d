use Rattle.std.proofs.Common.{◌≡◌}
use Rattle.doc_markup.specs.Links.{markdown_links}
use Rattle.doc_pages.proofs.markdown.MarkdownBuilder.first_set.Given as goal

abbrev pub invariant-loop-place : goal.invariant-loop-place
invariant-loop-place l =
    markdown_links l.self.tokens.items ≡ markdown_links l.fn.self.tokens.items
