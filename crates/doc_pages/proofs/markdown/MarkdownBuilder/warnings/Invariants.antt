use Rattle.std.proofs.Common.{◌≡◌}
use Rattle.doc_markup.specs.Links.{markdown_links}
use Rattle.doc_pages.proofs.markdown.MarkdownBuilder.warnings.Given as goal

abbrev pub invariant-loop-warning : goal.invariant-loop-warning
invariant-loop-warning l =
    markdown_links l.self.tokens.items ≡ markdown_links l.fn.self.tokens.items
