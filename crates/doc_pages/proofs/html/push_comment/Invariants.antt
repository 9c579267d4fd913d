use Rattle.std.proofs.Common.{◌≡◌}
use Rattle.doc_markup.specs.Links.{links_of}
use Rattle.doc_pages.proofs.html.push_comment.Given as goal

abbrev pub invariant-loop-line : goal.invariant-loop-line
invariant-loop-line l = links_of l.markup.tokens.items ≡ links_of l.fn.markup.tokens.items
