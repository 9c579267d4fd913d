use Rattle.std.proofs.Common.{◌<◌, arith, inr}
use Rattle.matcher_compiler.proofs.Growing.{later_twice}
use Rattle.matcher_code.specs.Laid as lay
use Rattle.matcher_compiler.proofs.plan.Plan.shortened_repetition.Goals as goal

pub returns-clause-later : goal.returns-clause-later
returns-clause-later c =
    let p = c.args.program.now in
    later_twice p _ _ _ (later_twice p _ _ _ (later_twice p _ _ _ (c.in_ok-demand.ensures.later p) (c.in_ok-set.ensures.later p))
    (c.in_ok-operation.ensures.later p)) (c.in_ok-point.ensures.later p c.requires.bound)

pub returns-clause-lays : goal.returns-clause-lays
returns-clause-lays c = λ classes fits code laid m.
    let p = c.args.program.now in
    let m3 = (c.in_ok-point.ensures.later p c.requires.bound).met code laid m in
    let m2 = (c.in_ok-operation.ensures.later p).met code laid m3 in
    let m1 = (c.in_ok-set.ensures.later p).met code laid m2 in
    let up : 0 < c.args.at.next = omega arith in
    lay.tight_rep c.args.fresh (c.requires.tight classes) (c.in_ok-demand.ensures.met p code laid m1) up
    (inr (record {
      set = c.in_ok-set.set;
      ranges = c.args.ranges.items;
      taken = c.in_ok-operation.ensures.met p code laid m3;
      is = c.in_ok-set.ensures.means p code laid m2;
      takes = c.requires.takes classes fits;
    })) (c.in_ok-point.ensures.has p code laid m)
