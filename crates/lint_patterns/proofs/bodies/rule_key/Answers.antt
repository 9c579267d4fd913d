use Rattle.std.proofs.Common.{◌≡◌, ◌∙◌, sym, true}
use Rattle.lint_patterns.specs.Duplicates.{is_compared}
use Rattle.lint_patterns.proofs.Known.{long_uncompared, plain_uncompared, short_compared}
use Rattle.lint_patterns.proofs.SameBodies.{marked}
use Rattle.front_spanned.specs.Erasure.{without_spans}
use Rattle.front_spanned.specs.Nodes.{rule_view}
use Rattle.lint_patterns.proofs.bodies.rule_key.Goals as goal

pub returns-then-is_plain : goal.returns-then-is_plain
returns-then-is_plain c = plain_uncompared (without_spans (rule_view c.args.rule.now).body) (sym c.is_plain.ensures ∙ c.if-is_plain.true)

pub returns-in_ok-with_type-in-Some : goal.returns-in_ok-with_type-in-Some
returns-in_ok-with_type-in-Some c =
    let r = rule_view c.args.rule.now in
    let has = rw c.in-Some.is at c.in_ok-body.ensures in
    let compared : is_compared (without_spans r.body) ≡ true = short_compared (without_spans r.body) (sym c.is_plain.ensures ∙ c.if-is_plain.false) has.1 in
    (marked r c.in_ok-with_type-in-Some.field-0.items c.in-Some.body.items c.in_ok-with_type-in-Some.ensures has.0, compared)

pub returns-in-None : goal.returns-in-None
returns-in-None c = long_uncompared (without_spans (rule_view c.args.rule.now).body) (rw c.in-None.is at c.in_ok-body.ensures)
