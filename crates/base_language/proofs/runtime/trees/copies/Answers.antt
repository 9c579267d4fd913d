use Rattle.std.proofs.Common.{◌++◌, map, ap, sym, ◌∙◌, arith}
use Rattle.base_language.specs.Pieces.TreeViews.{tree_of}
use Rattle.base_language.proofs.Copying.{all_copies, begins_falls, begins_first, first_and_others, makes, steps_behind, steps_behind_push}
use Rattle.base_language.proofs.LettingGo.{nothing_left}
use Rattle.base_language.proofs.runtime.trees.copies.Goals as goal

pub loop-left-smaller-then-left-lt1 : goal.loop-left-smaller-then-left-lt1
loop-left-smaller-then-left-lt1 g c =
    let split = ap steps_behind c.in-Some.ensures.items ∙ steps_behind_push c.pop.new.self.items c.in-Some.last in
    omega (arith, split)

pub loop-left-preserved-then-left-lt1 : goal.loop-left-preserved-then-left-lt1
loop-left-preserved-then-left-lt1 g c =
    makes c.loop-left.begun.items c.pop.new.self.items c.in-Some.last c.loop-left.copies.items c.push.new.self.items c.new-copy.result
    c.in-Some.ensures.items c.new-copy.ensures c.in_ok-push-in-empty.ensures.items
    ∙ ap (λ ts. all_copies c.loop-left.begun.items (map tree_of c.loop-left.copies.items ++ map tree_of ts)) (sym (nothing_left c.loop-left.left.now (omega (arith, c.in-empty.len_below))))
    ∙ c.loop-left.invariant

pub loop-left-smaller : goal.loop-left-smaller
loop-left-smaller g c =
    begins_falls c.loop-left.begun.items c.push-in-len1-up.new.self.items _ c.as_slice-left-in-len1-up.result.now c.loop-left.left.now
    c.in_ok-push-in-len1-up.ensures.items c.as_slice-left-in-len1-up.ensures.value
    (first_and_others c.loop-left.left.now c.tree-item.result _ c.tree-item.is (omega (arith, c.in-len1-up.len_at_least)) (omega arith))

pub loop-left-preserved : goal.loop-left-preserved
loop-left-preserved g c =
    begins_first c.loop-left.begun.items c.push-in-len1-up.new.self.items _ c.in_ok-copies-in-len1-up.copies.items c.as_slice-left-in-len1-up.result.now c.loop-left.left.now
    c.in_ok-push-in-len1-up.ensures.items c.in_ok-copies-in-len1-up.ensures.items c.as_slice-left-in-len1-up.ensures.value
    (first_and_others c.loop-left.left.now c.tree-item.result _ c.tree-item.is (omega (arith, c.in-len1-up.len_at_least)) (omega arith))
    ∙ c.loop-left.invariant
