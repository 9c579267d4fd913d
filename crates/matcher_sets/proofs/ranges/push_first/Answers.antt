use Rattle.matcher_code.specs.Lists.{is_covered}
use Rattle.std.proofs.Common.{◌∙◌, ap, sym, ◌||◌}
use Rattle.matcher_sets.proofs.Ranging.{between_same, or_none}
use Rattle.matcher_sets.proofs.ranges.push_first.Goals as goal

pub returns : goal.returns
returns c = λ x h.
    c.in_ok-push_range.ensures x h ∙ ap (λ b. is_covered c.args.ranges.now.items x || b) (between_same c.in-Some.c x ∙ sym (c.in-Some.ensures.some x))

pub returns-in-None : goal.returns-in-None
returns-in-None c = λ x h.
    sym (ap (λ b. is_covered c.args.ranges.now.items x || b) (c.in-None.ensures.none x) ∙ or_none (is_covered c.args.ranges.now.items x))
