use Rattle.matcher_code.specs.Lists.{is_covered}
use Rattle.std.proofs.Common.{◌≡◌, ◌∙◌, ◌++◌, ap, arith, ◌||◌}
use Rattle.std.proofs.lemmas.Grind.{common_steps}
use Rattle.matcher_sets.proofs.Ranging.{covered-append}
use Rattle.matcher_sets.proofs.ranges.push_class.Goals as goal

pub returns : goal.returns
returns c = λ x h.
    let e : c.extend_from_slice.new.self.items ≡ c.args.ranges.now.items ++ c.class_ranges.result.now = grind (arith, common_steps) in
    ap (λ rs. is_covered rs x) e ∙ (covered-append c.args.ranges.now.items c.class_ranges.result.now x
    ∙ ap (λ b. is_covered c.args.ranges.now.items x || b) (c.class_ranges.ensures x h))
