use Rattle.std.proofs.Common.{inr}
use Rattle.matcher_compiler.proofs.Growing.{later_twice}
use Rattle.matcher_compiler.proofs.Noting.{if_noted}
use Rattle.matcher_compiler.proofs.plan.Plan.test.Goals as goal

pub returns-clause-later : goal.returns-clause-later
returns-clause-later c = λ p.
    later_twice p _ _ _ (later_twice p _ _ _ (c.in_ok-miss.ensures.later p) (c.in_ok-set.ensures.later p)) (c.in_ok-operation.ensures.later p)

pub returns-clause-enters : goal.returns-clause-enters
returns-clause-enters c = λ p k fails classes fits code laid m.
    let m2 = (c.in_ok-operation.ensures.later p).met code laid m in
    let m1 = (c.in_ok-set.ensures.later p).met code laid m2 in
    inr (record {
      set = c.in_ok-set.set;
      ranges = c.args.first_set.ranges.items;
      noted = c.args.first_set.noted;
      allowed = if_noted code c.args.first_set.noted _ _ (c.in_ok-miss.ensures.goes p code laid m1);
      miss = c.in_ok-miss.miss;
      tested = c.in_ok-operation.ensures.met p code laid m;
      is = c.in_ok-set.ensures.means p code laid m2;
      fails = fails classes fits;
      goes = c.in_ok-miss.ensures.goes p code laid m1;
    })
