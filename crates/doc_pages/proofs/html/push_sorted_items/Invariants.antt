use Rattle.std.proofs.Common.{◌≡◌, ◌++◌, map, take}
use Rattle.doc_markup.specs.Links.{links_of}
use Rattle.doc_pages.proofs.html.push_sorted_items.Given as goal

abbrev pub invariant-loop-rule : goal.invariant-loop-rule
invariant-loop-rule l =
    links_of l.markup.tokens.items ≡ links_of l.fn.markup.tokens.items ++ map (λ rule. rule.1) (take l.rule-index l.sorted)
