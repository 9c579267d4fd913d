use Rattle.matcher_compiler.proofs.Growing.{later_twice}
use Rattle.matcher_compiler.proofs.plan.Plan.table.Goals as goal

pub returns-clause-later : goal.returns-clause-later
returns-clause-later c = λ p.
    later_twice p _ _ _ (c.set_tables.ensures p) (later_twice p _ _ _ (c.in_ok-set.ensures.later p)
    (later_twice p _ _ _ (c.in_ok-operation.ensures.later p) (c.in_ok-demand.ensures.later p)))

pub returns-clause-branches : goal.returns-clause-branches
returns-clause-branches c = λ p k fails classes fits code laid m.
    let m2 = (c.in_ok-demand.ensures.later p).met code laid m in
    let m1 = (c.in_ok-operation.ensures.later p).met code laid m2 in
    record {
      table = c.args.self.now.tables;
      set = c.in_ok-set.set;
      ranges = c.args.first_set.ranges.items;
      noted = c.args.first_set.noted;
      switched = c.in_ok-operation.ensures.met p code laid m2;
      is = c.in_ok-set.ensures.means p code laid m1;
      fails = fails classes fits;
      allowed = (c.in_ok-demand.ensures.met p code laid m).1;
      branches = (c.in_ok-demand.ensures.met p code laid m).0;
    }
