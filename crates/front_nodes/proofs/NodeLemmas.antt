-- Trees of nodes.
use Rattle.std.proofs.Common.{◌≡◌, ℕ, zero, suc, ◌-◌, ◌≤◌, min, List, [], ◌∷◌, ◌++◌, get_or, length, take, drop, refl, sym, ap, ap₂, ◌∙◌, arith}
use Rattle.std.proofs.Math.Seq.{drop-append_seam, take-append_seam, take-length}
use Rattle.std.proofs.lemmas.List.{drop_min, length-drop, length-take, take_min}
use Rattle.base_language.specs.Pieces.TokenTrees.{TokenTrees, NoTokens, Token}
use Rattle.base_language.specs.declared.grammar.Rule.{Rule}
use Rattle.front_nodes.specs.declared.nodes.TokenNode.{TokenNode}
use Rattle.front_nodes.specs.Nodes.{at_most_trees, nodes_of, trees_of}

taken_le : (m k : ℕ) (ns : List TokenNode) → length ns ≤ k → length (take m ns) ≤ k
taken_le m k ns h = let e = length-take m ns in omega (arith, e, h)

dropped_le : (m k : ℕ) (ns : List TokenNode) → length ns ≤ k → length (drop m ns) ≤ k
dropped_le m k ns h = let e = length-drop m ns in omega (arith, e, h)

-- the bound does not matter
enough : (j k : ℕ) (ns : List TokenNode) → length ns ≤ j → length ns ≤ k → at_most_trees j ns ≡ at_most_trees k ns
enough zero zero ns h i = refl
enough zero (suc k) [] h i = refl
enough zero (suc k) (n ∷ ns) h i = absurd (omega (arith, h))
enough (suc j) zero [] h i = refl
enough (suc j) zero (n ∷ ns) h i = absurd (omega (arith, i))
enough (suc j) (suc k) [] h i = refl
enough (suc j) (suc k) (n ∷ ns) h i =
    let short : length ns ≤ j = omega (arith, h) in
    let other : length ns ≤ k = omega (arith, i) in
    ap₂ (λ a b. Token n.rule n.start n.end a b)
    (enough j k (take n.inner ns) (taken_le n.inner j ns short) (taken_le n.inner k ns other))
    (enough j k (drop n.inner ns) (dropped_le n.inner j ns short) (dropped_le n.inner k ns other))

-- the first tree, and those after it
pub trees_of-cons : (n : TokenNode) (ns : List TokenNode) → trees_of (n ∷ ns) ≡ Token n.rule n.start n.end (trees_of (take n.inner ns)) (trees_of (drop n.inner ns))
trees_of-cons n ns =
    let here : length ns ≤ length ns = omega arith in
    ap₂ (λ a b. Token n.rule n.start n.end a b)
    (enough (length ns) (length (take n.inner ns)) (take n.inner ns) (taken_le n.inner (length ns) ns here) (omega arith))
    (enough (length ns) (length (drop n.inner ns)) (drop n.inner ns) (dropped_le n.inner (length ns) ns here) (omega arith))

-- the trees of a node, of those inside it and of those after them
pub trees_of-node : (n : TokenNode) (inner others : List TokenNode) → n.inner ≡ length inner
    → trees_of (n ∷ inner ++ others) ≡ Token n.rule n.start n.end (trees_of inner) (trees_of others)
trees_of-node n inner others e =
    trees_of-cons n (inner ++ others)
    ∙ ap₂ (λ a b. Token n.rule n.start n.end (trees_of a) (trees_of b)) (ap (λ k. take k (inner ++ others)) e ∙ take-append_seam inner others) (ap (λ k. drop k (inner ++ others)) e ∙ drop-append_seam inner others)

-- trees are those of their nodes
pub trees_of-nodes_of : (trees : TokenTrees Rule) → trees_of (nodes_of trees) ≡ trees
trees_of-nodes_of NoTokens = refl
trees_of-nodes_of (Token rule start end_ inner others) =
    let n : TokenNode = record { rule = rule; start = start; end = end_; inner = length (nodes_of inner) } in
    trees_of-node n (nodes_of inner) (nodes_of others) refl
    ∙ ap₂ (λ a b. Token rule start end_ a b) (trees_of-nodes_of inner) (trees_of-nodes_of others)

-- the first tree of a list that is not empty
pub first_of : (ns inner others : List TokenNode) (e k : ℕ) (d : TokenNode) → 1 ≤ length ns → e ≡ length ns
    → k ≡ min (get_or ns 0 d).inner (length (take (e - 1) (drop 1 ns))) → inner ≡ take k (take (e - 1) (drop 1 ns)) → others ≡ drop k (take (e - 1) (drop 1 ns))
    → trees_of ns ≡ Token (get_or ns 0 d).rule (get_or ns 0 d).start (get_or ns 0 d).end (trees_of inner) (trees_of others)
first_of [] inner others e k d h i m f g = absurd (omega (arith, h))
first_of (n ∷ ns) inner others e k d h i m f g =
    let all : take (e - 1) ns ≡ ns = ap (λ j. take j ns) (omega (arith, i)) ∙ take-length ns in
    let size : k ≡ min n.inner (length ns) = m ∙ ap (λ l. min n.inner (length l)) all in
    let front : inner ≡ take n.inner ns = f ∙ ap₂ (λ j l. take j l) size all ∙ take_min n.inner ns in
    let back : others ≡ drop n.inner ns = g ∙ ap₂ (λ j l. drop j l) size all ∙ drop_min n.inner ns in
    trees_of-cons n ns ∙ ap₂ (λ a b. Token n.rule n.start n.end (trees_of a) (trees_of b)) (sym front) (sym back)
