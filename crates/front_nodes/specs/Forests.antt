-- Views of the trees of a text.
use Rattle.std.specs.Prelude.{ℕ, List}
use Rattle.base_language.specs.Pieces.TokenTrees.{TokenTrees}
use Rattle.base_language.specs.declared.grammar.Rule.{Rule}
use Rattle.front_nodes.specs.Nodes.{trees_of}
use Rattle.front_nodes.specs.declared.forest.Forest.{Forest}

-- the text, as bytes
abbrev pub forest_text : Forest → List ℕ
forest_text forest = forest.text.now

-- the trees
abbrev pub forest_trees : Forest → TokenTrees Rule
forest_trees forest = trees_of forest.nodes.items
