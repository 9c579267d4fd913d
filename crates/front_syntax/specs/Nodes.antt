-- Trees by their nodes in preorder.
use Rattle.std.specs.Prelude.{◌≡◌, ℕ, List}
use Rattle.base_language.specs.Language.State.{Trees}
use Rattle.base_language.specs.declared.grammar.Rule.{Rule}
use Rattle.front_code.specs.Numbers.{AreNumbered, number_of}
use Rattle.front_grammar.specs.Outcomes.{Spells}
use Rattle.matcher_code.specs.Reached.{nodes_of}
use Rattle.matcher_code.specs.declared.state.TreeNode.{TreeNode}

-- these are the nodes of trees
pub record AreNodesOf (nodes : List TreeNode) (us : Trees) : Type 0 where
  pub numbered : AreNumbered us
  pub same : nodes ≡ nodes_of number_of 0 us

-- these are the nodes of trees that the text spells
pub record AreSpelledNodes (rule : Rule) (text : List ℕ) (nodes : List TreeNode) : Type 0 where
  pub trees : Trees
  pub spelled : Spells rule text trees
  pub are_nodes : AreNodesOf nodes trees
