use Rattle.std.proofs.Common.{◌≡◌, ◌∷◌, filter, take}
use Rattle.base_language.specs.declared.grammar.Rule.TheVariants as is
use Rattle.front_syntax.specs.ExpectedRules.{is_numbered}
use Rattle.front_syntax.proofs.expecting.rules_in_order.Given as goal

abbrev pub invariant-loop-rule : goal.invariant-loop-rule
invariant-loop-rule l = l.rules.items ≡ filter (is_numbered l.numbers) (is.EOI ∷ take l.rule-index l.rule-items)
