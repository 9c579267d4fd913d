use Rattle.std.proofs.Common.{◌≡◌, ◌++◌, take}
use Rattle.std.specs.HashMap.{get_by_text}
use Rattle.doc_markup.specs.Links.{links_of}
use Rattle.doc_pages.specs.Links.{source_links}
use Rattle.doc_pages.proofs.html.push_source.Given as goal

abbrev pub invariant-loop-part : goal.invariant-loop-part
invariant-loop-part l =
    links_of l.markup.tokens.items
    ≡ links_of l.fn.markup.tokens.items ++ source_links (get_by_text l.numbers) l.own (take l.part-index l.source.parts.items)
