use Rattle.std.proofs.Common.{◌∙◌, ap, ap₂, flat_map, lit<, map}
use Rattle.matcher_code.specs.Bytecodes.{sets_in}
use Rattle.matcher_code.specs.Lists.{lists_of}
use Rattle.matcher_code.specs.Operations.{ops_in}
use Rattle.matcher_code.specs.Words.{pairs_in, parts_in, words_in}
use Rattle.format_code.specs.Codes.{lists_at, order_of}
use Rattle.format_code.proofs.Listings.{lists_same, sets_are}
use Rattle.format_code.proofs.code.write_code.Goals as goal

pub returns : goal.returns
returns c =
    let code = c.args.code.now in
    let bytes = c.in_ok-bytes.bytes.items in
    let at = c.in_ok-bytes.ensures in
    let ops = at 0 (lit< tt) ∙ (c.as_flattened-2.ensures.value ∙ ap (flat_map (λ x. x)) (c.as_flattened.ensures.value ∙ ap (flat_map (λ x. x)) c.deref-7.ensures.value)) in
    let byte_sets = at 1 (lit< tt) ∙ c.as_slice.ensures.value in
    let tables = at 2 (lit< tt) ∙ (c.as_flattened-3.ensures.value ∙ ap (flat_map (λ x. x)) c.deref-8.ensures.value) in
    let set_places = at 3 (lit< tt) ∙ c.as_slice-2.ensures.value in
    let ranges = at 4 (lit< tt) ∙ c.as_slice-3.ensures.value in
    let orders = at 5 (lit< tt) ∙ (c.as_slice-4.ensures.value ∙ (c.in_ok-orders.ensures ∙ ap (map order_of) c.deref-4.ensures.value)) in
    let text_places = at 6 (lit< tt) ∙ c.as_slice-5.ensures.value in
    let texts = at 7 (lit< tt) ∙ c.as_slice-6.ensures.value in
    let list_places = at 8 (lit< tt) ∙ c.as_slice-7.ensures.value in
    let lists = at 9 (lit< tt) ∙ c.as_slice-8.ensures.value in
    let all_ranges = c.in_ok-ranges.ensures ∙ ap (map (λ r. r.ranges.items)) c.deref-3.ensures.value in
    let all_texts = c.in_ok-texts.ensures ∙ ap (map (λ t. t.items)) c.deref-5.ensures.value in
    let all_lists = c.in_ok-lists.ensures ∙ ap (map (λ l. l.items)) c.deref-6.ensures.value in
    lists_same (lists_at bytes) (lists_of code)
    (ap ops_in ops ∙ (c.in_ok-ops.ensures ∙ c.deref.ensures.value))
    byte_sets
    (ap₂ sets_in orders (ap₂ (λ ps rs. parts_in (words_in ps) (pairs_in rs)) set_places ranges ∙ all_ranges)
    ∙ sets_are code.ranges.items)
    (ap words_in tables ∙ (c.in_ok-tables.ensures ∙ c.deref-2.ensures.value))
    (ap₂ (λ ps ts. parts_in (words_in ps) ts) text_places texts ∙ all_texts)
    (ap₂ (λ ps ls. parts_in (words_in ps) (words_in ls)) list_places lists ∙ all_lists)
