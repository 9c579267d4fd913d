use Rattle.std.proofs.Common.{rules, ◌≡◌, ◌+◌, arith, suc}
use Rattle.std.proofs.lemmas.Grind.{common_steps}
use Rattle.format_binary.specs.Fronts.{item_bytes}
use Rattle.format_binary.proofs.Refused.{left_behind, no_err, same_err, text_ends, text_left_wrong, texts_behind, texts_short}
use Rattle.format_binary.proofs.input.ByteInput.read_strings.Goals as goal

pub returns-in_err-count-clause-refused : goal.returns-in_err-count-clause-refused
returns-in_err-count-clause-refused c = no_err c.from_residual.result (texts_short c.args.self.now.rest.now c.in_err-count.ensures.refused)

pub loop-place-init : goal.loop-place-init
loop-place-init c = record {
  read = grind (arith, common_steps);
  count = search rules;
  left = texts_behind c.args.self.now.rest.now c.read_size.new.self.rest.now c.in_ok-count.count c.in_ok-count.ensures.fits c.in_ok-count.ensures.read;
}

pub returns-in_err-read_string-clause-refused : goal.returns-in_err-read_string-clause-refused
returns-in_err-read_string-clause-refused c =
    same_err c.from_residual-in_err-read_string.result c.in_err-read_string.field-0.0 c.from_residual-in_err-read_string.ensures.1
    (text_left_wrong c.args.self.now.rest.now c.loop-place.self.rest.now c.in_ok-count.count c.loop-place.place c.loop-place-test.true c.loop-place.invariant.left c.in_err-read_string.ensures.refused)

pub loop-place-preserved : goal.loop-place-preserved
loop-place-preserved c =
    let next : c.loop-place.place + 1 ≡ suc c.loop-place.place = omega arith in
    record {
      read = grind (arith, common_steps);
      count = search rules;
      left = λ ss t e. let p = c.loop-place.invariant.left ss t e in (p.0, rw next (left_behind item_bytes ss.items c.loop-place.place c.loop-place.self.rest.now c.read_string.new.self.rest.now t (omega (arith, p.0, c.loop-place-test.true)) p.1 (λ u v. text_ends c.loop-place.self.rest.now c.read_string.new.self.rest.now v c.in_ok-read_string.field-0 u c.in_ok-read_string.ensures.read)));
    }
