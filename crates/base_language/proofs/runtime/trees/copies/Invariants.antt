use Rattle.std.proofs.Common.{◌≡◌, ◌+◌, ◌++◌, map}
use Rattle.base_language.specs.Pieces.TreeViews.{tree_of, trees_of}
use Rattle.base_language.proofs.Copying.{all_copies, steps_behind}
use Rattle.base_language.proofs.LettingGo.{steps}
use Rattle.base_language.proofs.runtime.trees.copies.Given as goal

abbrev pub invariant-loop-left : goal.invariant-loop-left
invariant-loop-left g l = all_copies l.begun.items (map tree_of l.copies.items ++ map tree_of l.left) ≡ map tree_of l.trees.items

abbrev pub decreases-loop-left : goal.decreases-loop-left
decreases-loop-left g l = steps_behind l.begun.items + steps (trees_of l.left)
