use Rattle.std.proofs.Common.{◌+◌}
use Rattle.base_language.specs.Pieces.TreeViews.{trees_of}
use Rattle.base_language.proofs.LettingGo.{steps, steps_above}
use Rattle.base_language.proofs.runtime.trees.TokenTree.+drop.Given as goal

abbrev pub decreases-loop-last : goal.decreases-loop-last
decreases-loop-last g l = steps (trees_of l.trees.items) + steps_above (trees_of l.above.items)
