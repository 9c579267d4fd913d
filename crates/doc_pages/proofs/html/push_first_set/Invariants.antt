use Rattle.std.proofs.Common.{◌≡◌}
use Rattle.doc_markup.specs.Links.{links_of}
use Rattle.doc_pages.proofs.html.push_first_set.Given as goal

abbrev pub invariant-loop-place : goal.invariant-loop-place
invariant-loop-place l = links_of l.markup.tokens.items ≡ links_of l.fn.markup.tokens.items
