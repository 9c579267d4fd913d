use Rattle.matcher_compiler.proofs.Growing.{later_twice}
use Rattle.matcher_compiler.proofs.plan.Plan.parts.Goals as goal

pub returns-clause-later : goal.returns-clause-later
returns-clause-later c = later_twice c.args.program.now _ _ _ (later_twice c.args.program.now _ _ _ (c.in_ok-point.ensures.later c.args.program.now c.requires.first_bound) (c.in_ok-point-2.ensures.later c.args.program.now tt)) (c.in_ok-point-3.ensures.later c.args.program.now c.requires.second_bound)

pub returns-clause-lays : goal.returns-clause-lays
returns-clause-lays c = λ code laid m.
    let m2 = (c.in_ok-point-3.ensures.later c.args.program.now c.requires.second_bound).met code laid m in
    let m1 = (c.in_ok-point-2.ensures.later c.args.program.now tt).met code laid m2 in
    record {
      behind = _;
      begin = _;
      left = c.in_ok-point.ensures.has c.args.program.now code laid m1;
      skipping = c.in_ok-point-2.ensures.has c.args.program.now code laid m2;
      right = c.in_ok-point-3.ensures.has c.args.program.now code laid m;
    }
