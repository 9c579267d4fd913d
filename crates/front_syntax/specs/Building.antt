-- How trees are made from their nodes, the last node first.
use Rattle.std.specs.Prelude.{ℕ, zero, suc, ◌-◌, List, [], ◌∷◌, if◌then◌else◌, length, nat_eq}
use Rattle.base_language.specs.Language.State.{Trees, None', Tree}
use Rattle.base_language.specs.Pieces.MetaRules.{name_of}
use Rattle.front_code.specs.Numbers.{rule_numbered}
use Rattle.front_nodes.specs.declared.nodes.TokenNode.{TokenNode}
use Rattle.matcher_code.specs.declared.state.TreeNode.{TreeNode}

-- the first numbers of a list, until their sum comes to a number
abbrev pub first_sizes : ℕ → List ℕ → List ℕ
first_sizes n [] = []
first_sizes n (s ∷ ss) = if nat_eq n 0 then [] else s ∷ first_sizes (n - s) ss

-- the numbers after those
abbrev pub other_sizes : ℕ → List ℕ → List ℕ
other_sizes n [] = []
other_sizes n (s ∷ ss) = if nat_eq n 0 then s ∷ ss else other_sizes (n - s) ss

-- a given number of the first trees, and the trees after those
abbrev pub first_trees : ℕ → Trees → Trees
first_trees zero us = None'
first_trees (suc n) None' = None'
first_trees (suc n) (Tree r i j inner others) = Tree r i j inner (first_trees n others)

abbrev pub other_trees : ℕ → Trees → Trees
other_trees zero us = us
other_trees (suc n) None' = None'
other_trees (suc n) (Tree r i j inner others) = other_trees n others

-- the tree of a node, with a given number of the trees after it inside it, and the others after it
abbrev pub tree_around : TreeNode → ℕ → Trees → Trees
tree_around t n us =
    Tree (name_of (rule_numbered t.rule)) t.start t.end (first_trees n us) (other_trees n us)

-- how many nodes the trees of nodes have each, where the first node has the number k
abbrev pub sizes_from : ℕ → List TreeNode → List ℕ
sizes_from k [] = []
sizes_from k (t ∷ ts) = (t.after - k) ∷ other_sizes (t.after - suc k) (sizes_from (suc k) ts)

-- the trees of nodes, where the first node has the number k
abbrev pub trees_from : ℕ → List TreeNode → Trees
trees_from k [] = None'
trees_from k (t ∷ ts) =
    tree_around t (length (first_sizes (t.after - suc k) (sizes_from (suc k) ts))) (trees_from (suc k) ts)

-- the nodes of a run with their rules, where the first node has the number k
abbrev pub nodes_from : ℕ → List TreeNode → List TokenNode
nodes_from k [] = []
nodes_from k (t ∷ ts) =
    record { rule = rule_numbered t.rule; start = t.start; end = t.end; inner = t.after - suc k }
    ∷ nodes_from (suc k) ts
