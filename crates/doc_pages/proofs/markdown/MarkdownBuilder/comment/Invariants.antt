use Rattle.std.proofs.Common.{◌≡◌}
use Rattle.doc_markup.specs.Links.{markdown_links}
use Rattle.doc_pages.proofs.markdown.MarkdownBuilder.comment.Given as goal

abbrev pub invariant-loop-line : goal.invariant-loop-line
invariant-loop-line l =
    markdown_links l.self.tokens.items ≡ markdown_links l.fn.self.tokens.items
