use Rattle.std.proofs.Common.{◌≡◌}
use Rattle.doc_markup.specs.Links.{links_of}
use Rattle.doc_pages.proofs.html.push_warnings.Given as goal

abbrev pub invariant-loop-warning : goal.invariant-loop-warning
invariant-loop-warning l = links_of l.markup.tokens.items ≡ links_of l.fn.markup.tokens.items
