use Rattle.std.proofs.Common.{◌≡◌, arith, subst, true}
use Rattle.std.proofs.lemmas.Grind.{common_steps}
use Rattle.matcher_sets.specs.Differences.{AddsFirsts}
use Rattle.matcher_sets.proofs.Heading.{firsts_take}
use Rattle.matcher_sets.proofs.first_sets.leaf_first_set.Goals as goal

pub returns-then-branch : goal.returns-then-branch
returns-then-branch c =
    let p = c.args.program.now in
    let t : c.in_ok-push_firsts.field-0 ≡ true = grind (arith, common_steps) in
    record {
      takes = λ classes fits.
          firsts_take p c.args.form.now c.args.mode c.push_firsts.new.ranges.items
          (subst (λ xs. AddsFirsts p c.args.form.now xs c.push_firsts.new.ranges.items) c.new-ranges.ensures.items (c.in_ok-push_firsts.ensures t)) classes fits;
    }
