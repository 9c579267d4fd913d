use Rattle.std.proofs.Common.{◌≡◌, ◌∙◌, ◌+◌, [], arith, suc, sym}
use Rattle.std.proofs.lemmas.Grind.{common_steps}
use Rattle.format_binary.specs.Fronts.{rule_item}
use Rattle.format_binary.proofs.Refused.{indices_more, left_behind, more_left, no_err, not_empty, rule_left_wrong, rules_behind, rules_short, same_err}
use Rattle.format_binary.proofs.rules.read_optimized_rules.Goals as goal

pub returns-in_err-count-clause-refused : goal.returns-in_err-count-clause-refused
returns-in_err-count-clause-refused c = no_err c.from_residual.result (rules_short c.args.bytes.now c.in_err-count.ensures.refused)

pub returns-in_err-read_rule-clause-refused : goal.returns-in_err-read_rule-clause-refused
returns-in_err-read_rule-clause-refused c =
    same_err c.from_residual-in_err-read_rule.result c.in_err-read_rule.field-0.0 c.from_residual-in_err-read_rule.ensures.1
    (rule_left_wrong c.args.bytes.now c.loop-place.input.rest.now c.in_ok-count.count c.loop-place.place c.loop-place-test.true c.loop-place.invariant.left c.in_err-read_rule.ensures.refused)

pub loop-place-init : goal.loop-place-init
loop-place-init c = record {
  read = grind (arith, common_steps);
  indices = grind (arith, common_steps);
  count = grind (arith, common_steps);
  left = rules_behind c.args.bytes.now c.read_size.new.self.rest.now c.in_ok-count.count c.in_ok-count.ensures.fits c.in_ok-count.ensures.read;
}

pub loop-place-preserved : goal.loop-place-preserved
loop-place-preserved c =
    let next : c.loop-place.place + 1 ≡ suc c.loop-place.place = omega arith in
    record {
      read = grind (arith, common_steps);
      indices = indices_more c.loop-place.rules.value.items c.push.new.self.value.items c.in_ok-read_rule.field-0 c.in_ok-push.ensures.pushed c.loop-place.invariant.indices c.in_ok-read_rule.ensures.indices;
      count = grind (arith, common_steps);
      left = λ rs e. let p = c.loop-place.invariant.left rs e in (p.0, rw next (left_behind rule_item rs.items c.loop-place.place c.loop-place.input.rest.now c.read_rule.new.input.rest.now [] (omega (arith, p.0, c.loop-place-test.true)) p.1 c.in_ok-read_rule.ensures.follows));
    }

pub returns-else-is_empty-clause-refused : goal.returns-else-is_empty-clause-refused
returns-else-is_empty-clause-refused c = λ e. more_left c.args.bytes.now c.loop-place.input.rest.now c.in_ok-count.count c.loop-place.place (omega (arith, c.loop-place-test.false)) c.loop-place.invariant.left (not_empty c.loop-place.input.rest.now (sym c.is_empty.ensures ∙ c.if-is_empty.false))
