-- Nodes of trees that are written one by one.
use Rattle.std.specs.Prelude.{ℕ, zero, suc, List, [], ◌∷◌, length}
use Rattle.front_nodes.specs.declared.nodes.TokenNode.{TokenNode}

-- the nodes after that of a number are inside it
abbrev pub with_inner : ℕ → List TokenNode → List TokenNode
with_inner k [] = []
with_inner zero (n ∷ ns) = record n { inner = length ns } ∷ ns
with_inner (suc k) (n ∷ ns) = n ∷ with_inner k ns
