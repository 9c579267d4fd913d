use Rattle.front_nodes.specs.Nodes.{named_trees_of}
use Rattle.front_reader.specs.Views.{count_of}
use Rattle.front_reader.proofs.Signs.{IsLeftOfTerm}
use Rattle.front_reader.proofs.rules.signs.take_signs.Given as goal

abbrev pub invariant-loop-tree : goal.invariant-loop-tree
invariant-loop-tree l = IsLeftOfTerm l.text (named_trees_of l.trees) l.signs.items (named_trees_of l.rest)

abbrev pub decreases-loop-tree : goal.decreases-loop-tree
decreases-loop-tree l = count_of (named_trees_of l.rest)
