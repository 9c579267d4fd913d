use Rattle.std.proofs.Common.{◌≡◌, ◌++◌}
use Rattle.std.specs.List.{range_with_len}
use Rattle.doc_markup.specs.Links.{markdown_links}
use Rattle.doc_pages.proofs.markdown.MarkdownBuilder.rules.Given as goal

abbrev pub invariant-loop-number : goal.invariant-loop-number
invariant-loop-number l =
    markdown_links l.self.tokens.items ≡ markdown_links l.fn.self.tokens.items ++ range_with_len 0 l.number
