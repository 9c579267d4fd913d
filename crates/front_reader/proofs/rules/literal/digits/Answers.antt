use Rattle.std.proofs.Common.{◌∙◌, arith, rules, chars}
use Rattle.front_reader.proofs.Literals.{digits_step}
use Rattle.front_reader.proofs.rules.literal.digits.Goals as goal

pub loop-c-preserved : goal.loop-c-preserved
loop-c-preserved c =
    let r = c.loop-c.invariant.reads in
    record {
      utf8 = search rules;
      within = omega (arith, c.in-Some.ensures.shorter);
      reads = (_, c.append_digit-value.ensures r.0 r.1, r.2 ∙ rw c.in-Some.ensures.parts (digits_step r.0 c.in-Some.c (chars c.in-Some.after.now) c.if-c-eq125.false));
    }
