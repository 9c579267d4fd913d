use Rattle.std.proofs.Common.{◌≡◌, ◌++◌, [], map}
use Rattle.front_nodes.specs.Nodes.{named_trees_of, trees_of}
use Rattle.base_language.specs.Pieces.Saying.{piece_of}
use Rattle.front_names.specs.GrammarNames.{calls}
use Rattle.front_names.specs.Standing.{AreTreesWithin}
use Rattle.front_names.proofs.Trees.{count_of}
use Rattle.front_names.proofs.found.calls.Given as goal

abbrev pub invariant-loop-tree : goal.invariant-loop-tree
invariant-loop-tree l = record {
  stand : AreTreesWithin l.text (trees_of l.rest);
  empty : l.waiting.items ≡ [];
  split : calls l.text (named_trees_of l.trees) ≡ map piece_of l.found.items ++ calls l.text (named_trees_of l.rest);
}

abbrev pub decreases-loop-tree : goal.decreases-loop-tree
decreases-loop-tree l = count_of (named_trees_of l.rest)
