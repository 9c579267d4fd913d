use Rattle.std.proofs.Common.{◌≡◌, ◌+◌, ◌++◌}
use Rattle.base_language.specs.Pieces.TreeViews as of_code
use Rattle.front_nodes.specs.Nodes.{nodes_of}
use Rattle.front_nodes.proofs.Writing.{all_nodes, steps, waiting_steps}
use Rattle.front_nodes.proofs.forest.write_nodes.Given as goal

abbrev pub invariant-trees : goal.invariant-trees
invariant-trees l = all_nodes l.begun.items (l.nodes.items ++ nodes_of (of_code.trees_of l.rest)) ≡ nodes_of (of_code.trees_of l.trees)

abbrev pub decreases-trees : goal.decreases-trees
decreases-trees l = steps (of_code.trees_of l.rest) + waiting_steps l.begun.items
