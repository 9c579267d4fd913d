use Rattle.std.proofs.Common.{◌≡◌, ◌++◌, take}
use Rattle.doc_markup.specs.Links.{links_of}
use Rattle.doc_pages.proofs.html.push_callers.Given as goal

abbrev pub invariant-loop-place : goal.invariant-loop-place
invariant-loop-place l =
    links_of l.markup.tokens.items ≡ links_of l.fn.markup.tokens.items ++ take l.place l.facts.callers.items
