use Rattle.std.proofs.Common.{◌≡◌}
use Rattle.doc_markup.specs.Links.{markdown_links}
use Rattle.doc_pages.proofs.markdown.MarkdownBuilder.source.Given as goal

abbrev pub invariant-loop-part : goal.invariant-loop-part
invariant-loop-part l =
    markdown_links l.self.tokens.items ≡ markdown_links l.fn.self.tokens.items
