-- Trees that are made from their nodes are those trees.
use Rattle.std.proofs.Common.{◌≡◌, refl, sym, ◌∙◌, ap, ap₂, ℕ, suc, ◌+◌, ◌-◌, ◌<◌, List, [], ◌∷◌, ◌++◌, drop, get_or, length, nat_eq, false, if◌then◌else◌, arith, append_assoc, append-nil}
use Rattle.std.proofs.Math.Seq.{drop-cons}
use Rattle.base_language.specs.Language.State.{Trees, None', Tree, joined}
use Rattle.base_language.specs.Pieces.MetaRules.{name_of}
use Rattle.base_language.specs.Pieces.NamedTrees.{named, named_trees_of}
use Rattle.base_language.specs.Pieces.TokenTrees.{TokenTrees, NoTokens, Token, followed_by}
use Rattle.base_language.specs.Pieces.TreeViews.{tree_of, trees_of}
use Rattle.base_language.specs.declared.grammar.Rule.{Rule}
use Rattle.base_language.specs.declared.runtime.trees.TokenTree.{TokenTree}
use Rattle.base_language.proofs.PairLemmas.{tree_of_out, trees_of-append, trees_of_push}
use Rattle.base_language.proofs.Steps.{joined_nil}
use Rattle.matcher_code.specs.declared.state.TreeNode.{TreeNode}
use Rattle.matcher_code.specs.Reached.{count_of, nodes_of}
use Rattle.front_code.specs.Numbers.{AreNumbered, number_of, rule_numbered}
use Rattle.front_syntax.specs.Building.{first_sizes, first_trees, other_sizes, other_trees, sizes_from, tree_around, trees_from}
use Rattle.front_syntax.specs.Nodes.{AreNodesOf}

-- how many nodes each tree has
abbrev sizes_of : Trees → List ℕ
sizes_of None' = []
sizes_of (Tree r i j inner others) = suc (count_of inner) ∷ sizes_of others

not_zero : (n : ℕ) → nat_eq (suc n) 0 ≡ false
not_zero n = grind arith

no_first : (ss : List ℕ) → first_sizes 0 ss ≡ []
no_first [] = refl
no_first (s ∷ ss) = refl

all_others : (ss : List ℕ) → other_sizes 0 ss ≡ ss
all_others [] = refl
all_others (s ∷ ss) = refl

-- the sizes of trees are those that come to the number of their nodes
first_of_sizes : (us : Trees) (ss : List ℕ) → first_sizes (count_of us) (sizes_of us ++ ss) ≡ sizes_of us
first_of_sizes None' ss = no_first ss
first_of_sizes (Tree r i j inner others) ss =
    let n : ℕ = suc (count_of inner + count_of others) in
    let e : n - suc (count_of inner) ≡ count_of others = omega arith in
    ap (λ b. if b then [] else suc (count_of inner) ∷ first_sizes (n - suc (count_of inner)) (sizes_of others ++ ss)) (not_zero (count_of inner + count_of others))
    ∙ ap (λ k. suc (count_of inner) ∷ first_sizes k (sizes_of others ++ ss)) e
    ∙ ap (λ l. suc (count_of inner) ∷ l) (first_of_sizes others ss)

others_of_sizes : (us : Trees) (ss : List ℕ) → other_sizes (count_of us) (sizes_of us ++ ss) ≡ ss
others_of_sizes None' ss = all_others ss
others_of_sizes (Tree r i j inner others) ss =
    let n : ℕ = suc (count_of inner + count_of others) in
    let e : n - suc (count_of inner) ≡ count_of others = omega arith in
    ap (λ b. if b then sizes_of (Tree r i j inner others) ++ ss else other_sizes (n - suc (count_of inner)) (sizes_of others ++ ss)) (not_zero (count_of inner + count_of others))
    ∙ ap (λ k. other_sizes k (sizes_of others ++ ss)) e
    ∙ others_of_sizes others ss

first_joined : (us vs : Trees) → first_trees (length (sizes_of us)) (joined us vs) ≡ us
first_joined None' vs = refl
first_joined (Tree r i j inner others) vs = ap (λ w. Tree r i j inner w) (first_joined others vs)

others_joined : (us vs : Trees) → other_trees (length (sizes_of us)) (joined us vs) ≡ vs
others_joined None' vs = refl
others_joined (Tree r i j inner others) vs = others_joined others vs

-- the sizes of the trees of nodes, and of those behind them
sizes_over : (us : Trees) (k : ℕ) (ts : List TreeNode) → sizes_from k (nodes_of number_of k us ++ ts) ≡ sizes_of us ++ sizes_from (k + count_of us) ts
sizes_over None' k ts = ap (λ n. sizes_from n ts) (omega arith)
sizes_over (Tree r i j inner others) k ts =
    let ci = count_of inner in
    let co = count_of others in
    let m = suc k + ci in
    let A = nodes_of number_of (suc k) inner in
    let B = nodes_of number_of m others in
    let S = sizes_from (k + suc (ci + co)) ts in
    let e0 : m - k ≡ suc ci = omega arith in
    let e1 : m - suc k ≡ ci = omega arith in
    let s1 : sizes_from (suc k) ((A ++ B) ++ ts) ≡ sizes_of inner ++ (sizes_of others ++ S) =
    ap (λ z. sizes_from (suc k) z) (append_assoc A B ts)
    ∙ (sizes_over inner (suc k) (B ++ ts) ∙ ap (λ z. sizes_of inner ++ z) (sizes_over others m ts ∙ ap (λ n. sizes_of others ++ sizes_from n ts) (omega arith))) in
    ap₂ (λ n z. n ∷ other_sizes (m - suc k) z) e0 s1
    ∙ ap (λ z. suc ci ∷ z) (ap (λ n. other_sizes n (sizes_of inner ++ (sizes_of others ++ S))) e1 ∙ others_of_sizes inner (sizes_of others ++ S))

trees_over : (us : Trees) (k : ℕ) (ts : List TreeNode) → AreNumbered us → trees_from k (nodes_of number_of k us ++ ts) ≡ joined us (trees_from (k + count_of us) ts)
trees_over None' k ts h = ap (λ n. trees_from n ts) (omega arith)
trees_over (Tree r i j inner others) k ts h =
    let ci = count_of inner in
    let co = count_of others in
    let m = suc k + ci in
    let A = nodes_of number_of (suc k) inner in
    let B = nodes_of number_of m others in
    let t : TreeNode = record { rule = number_of r; start = i; end = j; after = m } in
    let behind = joined others (trees_from (k + suc (ci + co)) ts) in
    let e1 : m - suc k ≡ ci = omega arith in
    let split = append_assoc A B ts in
    let s1 : first_sizes (m - suc k) (sizes_from (suc k) ((A ++ B) ++ ts)) ≡ sizes_of inner =
    ap₂ (λ n z. first_sizes n z) e1 (ap (λ z. sizes_from (suc k) z) split ∙ sizes_over inner (suc k) (B ++ ts)) ∙ first_of_sizes inner (sizes_from (suc k + ci) (B ++ ts)) in
    let s2 : trees_from (suc k) ((A ++ B) ++ ts) ≡ joined inner behind =
    ap (λ z. trees_from (suc k) z) split
    ∙ (trees_over inner (suc k) (B ++ ts) h.1 ∙ ap (λ z. joined inner z) (trees_over others m ts h.2 ∙ ap (λ n. joined others (trees_from n ts)) (omega arith))) in
    ap₂ (λ ss z. tree_around t (length ss) z) s1 s2
    ∙ (ap (λ w. Tree w i j (first_trees (length (sizes_of inner)) (joined inner behind)) (other_trees (length (sizes_of inner)) (joined inner behind))) h.0
    ∙ ap₂ (λ a b. Tree r i j a b) (first_joined inner behind) (others_joined inner behind))

-- all trees of nodes
pub all_built : (nodes : List TreeNode) (us : Trees) → AreNodesOf nodes us → trees_from 0 nodes ≡ us
all_built nodes us x =
    ap (λ ns. trees_from 0 ns) (x.same ∙ sym (append-nil (nodes_of number_of 0 us)))
    ∙ (trees_over us 0 [] x.numbered ∙ joined_nil us)

-- the last trees of a list are the first trees
named_followed : (a b : TokenTrees Rule) → named (followed_by a b) ≡ joined (named a) (named b)
named_followed NoTokens b = refl
named_followed (Token rule start end_ inner others) b = ap (λ z. Tree (name_of rule) start end_ (named inner) z) (named_followed others b)

named_push : (trees : List (TokenTree Rule)) (tree : TokenTree Rule) (rule : Rule) (i j : ℕ) (inner : TokenTrees Rule) → tree_of tree ≡ Token rule i j inner NoTokens
    → named_trees_of (trees ++ tree ∷ []) ≡ Tree (name_of rule) i j (named inner) (named_trees_of trees)
named_push trees tree rule i j inner e = ap named (trees_of_push trees tree ∙ ap (λ t. followed_by t (trees_of trees)) e)

roots_first : (us vs : Trees) (n : ℕ) → length (sizes_of us) ≡ n → (first_trees n (joined us vs) ≡ us) × (other_trees n (joined us vs) ≡ vs)
roots_first us vs n e = (ap (λ k. first_trees k (joined us vs)) (sym e) ∙ first_joined us vs, ap (λ k. other_trees k (joined us vs)) (sym e) ∙ others_joined us vs)

size-joined : (us vs : Trees) → length (sizes_of (joined us vs)) ≡ length (sizes_of us) + length (sizes_of vs)
size-joined None' vs = omega arith
size-joined (Tree r i j inner others) vs = omega (arith, size-joined others vs)

-- the number of trees is that of the list
count_named : (trees : List (TokenTree Rule)) → length (sizes_of (named_trees_of trees)) ≡ length trees
count_named [] = refl
count_named (tree ∷ trees) =
    let t = named_push [] tree _ _ _ _ (tree_of_out tree) in
    let s = ap named (trees_of-append (tree ∷ []) trees) ∙ named_followed (trees_of trees) (trees_of (tree ∷ [])) in
    let one : length (sizes_of (named_trees_of (tree ∷ []))) ≡ 1 = ap (λ us. length (sizes_of us)) t in
    ap (λ us. length (sizes_of us)) s ∙ (size-joined (named_trees_of trees) (named_trees_of (tree ∷ [])) ∙ omega (arith, one, count_named trees))

-- a list's last trees are the first of the trees
pub cut_off : (late early : List (TokenTree Rule)) (n : ℕ) → length early ≡ n
    → (first_trees n (named_trees_of (late ++ early)) ≡ named_trees_of early) × (other_trees n (named_trees_of (late ++ early)) ≡ named_trees_of late)
cut_off late early n e =
    let s = ap named (trees_of-append late early) ∙ named_followed (trees_of early) (trees_of late) in
    let r = roots_first (named_trees_of early) (named_trees_of late) n (count_named early ∙ e) in
    (ap (λ us. first_trees n us) s ∙ r.0, ap (λ us. other_trees n us) s ∙ r.1)

-- a tree around the last trees of a list, in their place
pub tree_added : (old kept inner now : List (TokenTree Rule)) (tree : TokenTree Rule) (t : TreeNode) (n : ℕ) → old ≡ kept ++ inner → length inner ≡ n
    → tree_of tree ≡ Token (rule_numbered t.rule) t.start t.end (trees_of inner) NoTokens → now ≡ kept ++ tree ∷ [] → named_trees_of now ≡ tree_around t n (named_trees_of old)
tree_added old kept inner now tree t n a b c d =
    let x = cut_off kept inner n b in
    ap named_trees_of d ∙ named_push kept tree (rule_numbered t.rule) t.start t.end (trees_of inner) c
    ∙ ap₂ (λ p q. Tree (name_of (rule_numbered t.rule)) t.start t.end p q) (sym x.0 ∙ ap (λ l. first_trees n (named_trees_of l)) (sym a)) (sym x.1 ∙ ap (λ l. other_trees n (named_trees_of l)) (sym a))

-- the node of a number, and those behind it
pub one_back : (nodes : List TreeNode) (k n : ℕ) (t : TreeNode) → k < length nodes → t ≡ get_or nodes k t → n ≡ suc k → drop k nodes ≡ t ∷ drop n nodes
one_back nodes k n t l at e = drop-cons nodes k t l ∙ ap₂ (λ x m. x ∷ drop m nodes) (sym at) (sym e)
