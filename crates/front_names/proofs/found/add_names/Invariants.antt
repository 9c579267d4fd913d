use Rattle.std.proofs.Common.{◌≡◌, ◌+◌, ◌++◌, map}
use Rattle.front_nodes.specs.Nodes.{named_trees_of, trees_of}
use Rattle.base_language.specs.Pieces.Saying.{piece_of}
use Rattle.front_names.specs.GrammarNames.{names_in}
use Rattle.front_names.specs.Standing.{AreTreesWithin}
use Rattle.front_names.proofs.Trees.{AllStand, count_of, waiting_names, waiting_count}
use Rattle.front_names.proofs.found.add_names.Given as goal

abbrev pub invariant-trees : goal.invariant-trees
invariant-trees l = record {
  here : AreTreesWithin l.text (trees_of l.rest);
  stand : AllStand l.text l.waiting.items;
  split : map piece_of l.fn.names.items ++ names_in l.text (named_trees_of l.trees)
      ≡ map piece_of l.names.items ++ (names_in l.text (named_trees_of l.rest) ++ waiting_names l.text l.waiting.items);
}

abbrev pub decreases-trees : goal.decreases-trees
decreases-trees l = count_of (named_trees_of l.rest) + waiting_count l.waiting.items
