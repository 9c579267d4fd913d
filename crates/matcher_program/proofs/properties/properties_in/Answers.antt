use Rattle.std.proofs.Common.{◌≡◌, true}
use Rattle.matcher_program.specs.Refusals.{has_property}
use Rattle.matcher_program.proofs.Gathering.{each_gathered, names_more, rule_gathered}
use Rattle.matcher_program.proofs.properties.properties_in.Goals as goal

pub loop-rule-preserved : goal.loop-rule-preserved
loop-rule-preserved g c =
    rule_gathered c.args.rules.now c.loop-rule.rule-index c.rule-item.result c.loop-rule.names.items c.add_names.new.names.items c.loop-rule-test.true c.rule-item.is c.in_ok-add_names.ensures c.loop-rule.invariant

pub loop-name-preserved : goal.loop-name-preserved
loop-name-preserved g c =
    let known = g.P.Properties.knows in (
      c.in_ok-add_property.ensures.fits,
      names_more (λ t. known t ≡ true → has_property c.loop-name.found.items t ≡ true) (λ t. known t ≡ true → has_property c.add_property.new.found.items t ≡ true) c.deref-name-items.result.now c.loop-name.name-index _
          c.loop-name-test.true (λ t f k. c.in_ok-add_property.ensures.others t (f k)) c.in_ok-add_property.ensures.known c.loop-name.invariant.1,
    )

pub returns-clause-complete : goal.returns-clause-complete
returns-clause-complete g c =
    each_gathered (λ t. g.P.Properties.knows t ≡ true → has_property c.loop-name.found.items t ≡ true) c.args.rules.now c.loop-rule.names.items c.deref-name-items.result.now c.loop-rule.rule-index c.loop-name.name-index
    c.loop-rule-test.false c.loop-rule.invariant c.deref-name-items.ensures.value c.loop-name-test.false c.loop-name.invariant.1
