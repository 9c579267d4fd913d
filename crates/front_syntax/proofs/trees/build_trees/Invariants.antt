use Rattle.std.proofs.Common.{◌≡◌, ◌≤◌, drop, length, reverse}
use Rattle.base_language.specs.Pieces.NamedTrees.{named_trees_of}
use Rattle.front_syntax.specs.Building.{sizes_from, trees_from}
use Rattle.front_syntax.proofs.trees.build_trees.Given as goal

abbrev pub invariant-loop-left : goal.invariant-loop-left
invariant-loop-left l = record {
  within : l.left ≤ length l.nodes;
  trees : named_trees_of l.trees.items ≡ trees_from l.left (drop l.left l.nodes);
  sizes : reverse l.sizes.items ≡ sizes_from l.left (drop l.left l.nodes);
  same : length l.trees.items ≡ length l.sizes.items;
}

abbrev pub decreases-loop-left : goal.decreases-loop-left
decreases-loop-left l = l.left
