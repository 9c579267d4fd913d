use Rattle.std.proofs.Common.{ap, bytes_eq, sym, ◌∙◌}
use Rattle.doc_pages.proofs.Asking.{named_here, none_more, none_named}
use Rattle.doc_pages.proofs.html.find_named.Goals as goal

pub returns-then-eq : goal.returns-then-eq
returns-then-eq c =
    named_here c.args.rules.now c.loop-rule.rule-index c.rule-item.result c.args.name.now c.loop-rule-test.true
    c.rule-item.is
    (ap (λ t. bytes_eq t c.args.name.now) (sym c.as_str.ensures.value) ∙ (sym c.eq.ensures ∙ c.if-eq.true))

pub loop-rule-preserved : goal.loop-rule-preserved
loop-rule-preserved c =
    none_more c.args.rules.now c.loop-rule.rule-index c.rule-item.result c.args.name.now c.loop-rule-test.true
    c.rule-item.is c.utf8.name
    (ap (λ t. bytes_eq t c.args.name.now) (sym c.as_str.ensures.value) ∙ (sym c.eq.ensures ∙ c.if-eq.false))
    c.loop-rule.invariant

pub returns : goal.returns
returns c = none_named c.args.rules.now c.loop-rule.rule-index c.args.name.now c.loop-rule-test.false c.loop-rule.invariant
