use Rattle.matcher_compiler.proofs.Growing.{later_twice}
use Rattle.matcher_compiler.proofs.plan.Plan.alternative.Goals as goal

pub returns-clause-later : goal.returns-clause-later
returns-clause-later c = later_twice c.args.program.now _ _ _ c.in_ok-label.ensures.later (c.in_ok-point.ensures.later c.args.program.now c.requires.bound)

pub returns-clause-begins : goal.returns-clause-begins
returns-clause-begins c = λ classes fits code laid m.
    let m1 = (c.in_ok-point.ensures.later c.args.program.now c.requires.bound).met code laid m in
    record {
      first = c.in_ok-label.label;
      entered = c.in_ok-label.ensures.enters classes fits code laid m1;
      point = c.in_ok-point.ensures.has c.args.program.now code laid m;
    }
