use Rattle.matcher_code.specs.Lists.{is_covered}
use Rattle.std.proofs.Common.{◌∙◌, ◌&&◌, ap, arith}
use Rattle.std.specs.Prelude.{not}
use Rattle.base_language.specs.Language.Builtins.{is_between}
use Rattle.matcher_sets.proofs.Outside.{range_kept, take_all}
use Rattle.matcher_sets.proofs.difference.outside_range.Goals as goal

pub loop-low-preserved : goal.loop-low-preserved
loop-low-preserved c =
    let adds = rw c.deref-low-items.ensures.value at c.in_ok-push_outside.ensures in
    range_kept c.args.ranges.now.items c.loop-low.low-index _ (omega arith) c.loop-low.rest.items c.push_outside.new.ranges.items c.args.from c.args.to c.loop-low.invariant adds

pub returns : goal.returns
returns c = λ x l.
    c.loop-low.invariant x l
    ∙ ap (λ rs. not (is_between c.args.from c.args.to x) && is_covered rs x) (take_all c.args.ranges.now.items c.loop-low.low-index (omega arith))
