-- Trees by nodes, each before those inside it.
use Rattle.std.specs.Prelude.{ℕ, zero, suc, List, [], ◌∷◌, ◌++◌, drop, length, take}
use Rattle.base_language.specs.Language.State.{Trees}
use Rattle.base_language.specs.Pieces.NamedTrees.{named}
use Rattle.base_language.specs.Pieces.TokenTrees.{TokenTrees, NoTokens, Token, AreNested, AreNested-prop}
use Rattle.base_language.specs.declared.grammar.Rule.{Rule}
use Rattle.front_nodes.specs.declared.nodes.TokenNode.{TokenNode}

-- the trees of nodes, where these are at most so many: the nodes inside the first one follow it, and those of
-- the other trees follow them
abbrev pub at_most_trees : ℕ → List TokenNode → TokenTrees Rule
at_most_trees zero ns = NoTokens
at_most_trees (suc k) [] = NoTokens
at_most_trees (suc k) (n ∷ ns) =
    Token n.rule n.start n.end (at_most_trees k (take n.inner ns)) (at_most_trees k (drop n.inner ns))

-- the trees of nodes
abbrev pub trees_of : List TokenNode → TokenTrees Rule
trees_of ns = at_most_trees (length ns) ns

-- trees of nodes by the names of their rules
abbrev pub named_trees_of : List TokenNode → Trees
named_trees_of ns = named (trees_of ns)

-- the nodes of trees
abbrev pub nodes_of : TokenTrees Rule → List TokenNode
nodes_of NoTokens = []
nodes_of (Token rule start end_ inner others) =
    record { rule = rule; start = start; end = end_; inner = length (nodes_of inner) }
    ∷ nodes_of inner ++ nodes_of others

-- the trees of nodes are nested within the whole of a text
abbrev pub AreNestedIn : List ℕ → List TokenNode → Type 0
AreNestedIn text ns = AreNested text (trees_of ns) 0 (length text)

-- there is one proof of it at most
pub AreNestedIn-prop : (text : List ℕ) (ns : List TokenNode) → IsProp (AreNestedIn text ns)
AreNestedIn-prop text ns = AreNested-prop text (trees_of ns) 0 (length text)
