use Rattle.std.proofs.Common.{◌≡◌, ◌++◌}
use Rattle.std.specs.List.{range_with_len}
use Rattle.doc_markup.specs.Links.{links_of}
use Rattle.doc_pages.proofs.html.push_rule_items.Given as goal

abbrev pub invariant-loop-number : goal.invariant-loop-number
invariant-loop-number l =
    links_of l.markup.tokens.items ≡ links_of l.fn.markup.tokens.items ++ range_with_len 0 l.number
