use Rattle.std.proofs.Common.{◌≡◌, ◌∙◌, ◌∷◌, ap, filter, take, arith}
use Rattle.std.proofs.lemmas.List.{take_all}
use Rattle.base_language.specs.declared.grammar.Rule.TheVariants as is
use Rattle.front_syntax.specs.ExpectedRules.{is_numbered}
use Rattle.front_syntax.proofs.Expectations.{in_order_named}
use Rattle.front_syntax.proofs.expecting.rules_in_order.Goals as goal

pub returns : goal.returns
returns c = λ names e.
    let items = c.all_rules-rule-items.result.now in
    let all : take c.loop-rule.rule-index items ≡ items = take_all c.loop-rule.rule-index items (omega arith) in
    c.loop-rule.invariant
    ∙ (ap (λ rs. filter (is_numbered c.args.numbers.now) (is.EOI ∷ rs)) (all ∙ c.all_rules-rule-items.ensures)
    ∙ in_order_named c.args.numbers.now names e)
