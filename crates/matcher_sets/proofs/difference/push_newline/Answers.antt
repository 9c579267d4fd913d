use Rattle.matcher_code.specs.Lists.{is_covered}
use Rattle.std.proofs.Common.{◌∙◌, ◌||◌, ap, ap₂, nat_eq, sym}
use Rattle.matcher_sets.proofs.Ranging.{between_same, or_assoc}
use Rattle.matcher_sets.proofs.difference.push_newline.Goals as goal

pub returns-clause-adds : goal.returns-clause-adds
returns-clause-adds c = λ x l.
    c.in_ok-push_range-2.ensures x l
    ∙ (ap₂ (λ a b. a || b) (c.in_ok-push_range.ensures x l ∙ ap (λ b. is_covered c.args.ranges.now.items x || b) (between_same 10 x)) (between_same 13 x)
    ∙ sym (or_assoc (is_covered c.args.ranges.now.items x) (nat_eq 10 x) (nat_eq 13 x)))
