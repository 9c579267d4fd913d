use Rattle.std.proofs.Common.{◌≡◌, ◌∙◌, ap, length, subst, sym}
use Rattle.base_language.specs.Pieces.Pairs.{pairs_text, pairs_trees}
use Rattle.base_language.specs.Pieces.TokenTrees.{AreNested}
use Rattle.front_nodes.specs.Nodes.{trees_of}
use Rattle.front_nodes.proofs.NodeLemmas.{trees_of-nodes_of}
use Rattle.front_nodes.proofs.forest.Forest.of_pairs.Goals as goal

pub invariant_of-result : goal.invariant_of-result
invariant_of-result c =
    let text = pairs_text c.args.pairs.now in
    let nodes = c.in_ok-nodes.nodes.items in
    let e : trees_of nodes ≡ pairs_trees c.args.pairs.now = ap trees_of c.in_ok-nodes.ensures ∙ trees_of-nodes_of _ ∙ c.trees.ensures in
    record {
      nested = subst (λ t. AreNested t (trees_of nodes) 0 (length t)) (sym c.get_input.ensures)
          (subst (λ trees. AreNested text trees 0 (length text)) (sym e) c.args.pairs.now.nested);
    }

pub returns-clause-trees : goal.returns-clause-trees
returns-clause-trees c = ap trees_of c.in_ok-nodes.ensures ∙ trees_of-nodes_of _ ∙ c.trees.ensures
