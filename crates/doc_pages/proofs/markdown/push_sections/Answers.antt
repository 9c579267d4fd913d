use Rattle.std.proofs.Common.{◌<◌, ◌∙◌, ap, arith, get_or, length, string_bytes}
use Rattle.doc_pages.proofs.Gaining.{markdown_links_named, no_markdown_yet, one_markdown_more, rules_more}
use Rattle.doc_pages.proofs.markdown.push_sections.Goals as goal

pub loop-number-init : goal.loop-number-init
loop-number-init c = no_markdown_yet c.args.names.now (string_bytes c.args.page.now)

pub loop-number-preserved : goal.loop-number-preserved
loop-number-preserved c =
    let items = c.args.doc.now.rules.value.items in
    let same = c.deref-rule-items.ensures.value in
    let small : c.loop-number.number < length items = omega (arith, ap length same) in
    let names = c.args.names.now in
    one_markdown_more names _ _ _ _ _ _ _ _ (markdown_links_named names items c.in_ok-contents.contents.before.items c.requires c.in_ok-contents.ensures.before)
    (markdown_links_named names items c.in_ok-contents.contents.after.items c.requires c.in_ok-contents.ensures.after) c.loop-number.invariant c.in_ok-push_markdown_section.ensures
    (rules_more items c.loop-number.number c.rule-item.result small
    (c.rule-item.is ∙ ap (λ xs. get_or xs c.loop-number.number c.rule-item.result) same))
