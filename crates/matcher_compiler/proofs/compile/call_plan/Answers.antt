use Rattle.std.proofs.Common.{◌<◌, arith, length, subst, sym}
use Rattle.std.proofs.lemmas.Grind.{common_steps}
use Rattle.matcher_code.specs.Lists.{lists_of}
use Rattle.matcher_code.specs.Sets.{IsSetOf}
use Rattle.matcher_compiler.specs.Plans.{IsEmptySet, SkipsAs}
use Rattle.matcher_compiler.proofs.compile.call_plan.Goals as goal

pub returns-clause-ready : goal.returns-clause-ready
returns-clause-ready c =
    let p = c.args.program.now in
    let l : c.in_ok-set.set < length c.add_set.new.code.ranges.items = grind (arith, common_steps) in
    let r : IsEmptySet c.add_set.new.code c.in_ok-set.set = record {
      within = l;
      is = subst (IsSetOf (lists_of c.add_set.new.code) c.in_ok-set.set) c.new.ensures.items c.in_ok-set.ensures.means;
    } in
    subst (λ s. SkipsAs p s c.in_ok-plan.plan.skips) (sym c.in_ok-plan.ensures.sets)
    (subst (λ b. SkipsAs p c.add_set.new.code b) (sym c.in_ok-plan.ensures.skips) r)
