use Rattle.matcher_compiler.proofs.Growing.{later_twice}
use Rattle.matcher_compiler.proofs.plan.Plan.called_turns.Goals as goal

pub returns-clause-later : goal.returns-clause-later
returns-clause-later c =
    let p = c.args.program.now in
    later_twice p _ _ _ (later_twice p _ _ _ (later_twice p _ _ _ (later_twice p _ _ _ (later_twice p _ _ _ (c.in_ok-point.ensures.later p c.requires.bound)
    (c.in_ok-operation.ensures.later p)) (c.in_ok-operation-2.ensures.later p)) (c.in_ok-point-2.ensures.later p tt)) (c.in_ok-operation-3.ensures.later p)) (c.in_ok-operation-4.ensures.later p)

pub returns-clause-turns : goal.returns-clause-turns
returns-clause-turns c = λ code laid m.
    let p = c.args.program.now in
    let m5 = (c.in_ok-operation-4.ensures.later p).met code laid m in
    let m4 = (c.in_ok-operation-3.ensures.later p).met code laid m5 in
    let m3 = (c.in_ok-point-2.ensures.later p tt).met code laid m4 in
    let m2 = (c.in_ok-operation-2.ensures.later p).met code laid m3 in
    let m1 = (c.in_ok-operation.ensures.later p).met code laid m2 in
    record {
      last = _;
      trivia = _;
      again = _;
      end = _;
      forward = c.requires.next;
      operand = (c.in_ok-point.ensures.has p code laid m1).point;
      returns = c.in_ok-operation.ensures.met p code laid m2;
      tries = c.in_ok-operation-2.ensures.met p code laid m3;
      skipping = c.in_ok-point-2.ensures.has p code laid m4;
      calls = c.in_ok-operation-3.ensures.met p code laid m5;
      commits = c.in_ok-operation-4.ensures.met p code laid m;
    }
