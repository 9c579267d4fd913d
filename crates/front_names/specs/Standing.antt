-- Trees within a text.
use Rattle.std.specs.Prelude.{ℕ, List}
use Rattle.base_language.specs.Pieces.TokenTrees.{TokenTrees, Token, AreNested}
use Rattle.front_nodes.specs.Nodes.{trees_of}
use Rattle.base_language.specs.declared.grammar.Rule.{Rule}
use Rattle.front_nodes.specs.declared.nodes.FirstTree.{FirstTree}

-- the trees are within the text: in order and disjoint, on character boundaries, and around those inside
-- them
pub record AreTreesWithin (text : List ℕ) (trees : TokenTrees Rule) : Type 0 where
  pub from : ℕ
  pub to : ℕ
  pub nested : AreNested text trees from to

-- the first of some trees is within the text, and so are those in it and those after it
abbrev pub IsTreeWithin : List ℕ → FirstTree → Type 0
IsTreeWithin text tree = AreTreesWithin text
    (Token tree.rule tree.start tree.end (trees_of tree.inner.now) (trees_of tree.others.now))
