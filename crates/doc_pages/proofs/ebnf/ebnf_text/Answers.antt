use Rattle.std.proofs.Common.{◌<◌, [], ◌∙◌, ap, arith, get_or, length, subst, sym}
use Rattle.doc_markup.specs.Pages.{AreDefinitions, no_definitions}
use Rattle.doc_pages.proofs.Gaining.{one_definition_more, rules_more}
use Rattle.doc_pages.proofs.ebnf.ebnf_text.Goals as goal

pub loop-rule-init : goal.loop-rule-init
loop-rule-init c = subst (λ t. AreDefinitions [] t) (sym c.new-text.ensures.bytes) no_definitions

pub loop-rule-preserved : goal.loop-rule-preserved
loop-rule-preserved c =
    let items = c.args.doc.now.rules.value.items in
    let same = c.deref-rule-items.ensures.value in
    let small : c.loop-rule.rule-index < length items = omega (arith, ap length same) in
    one_definition_more _ _ _ c.deref.result.now _ _ c.loop-rule.invariant c.in_ok-push_definition.ensures
    (rules_more items c.loop-rule.rule-index c.rule-item.result small
    (c.rule-item.is ∙ ap (λ xs. get_or xs c.loop-rule.rule-index c.rule-item.result) same))
