-- The nodes of a run with their rules are those of its trees.
use Rattle.std.proofs.Common.{◌≡◌, refl, sym, ◌∙◌, ap, ap₂, ℕ, suc, ◌+◌, ◌-◌, ◌<◌, ◌≤◌, List, [], ◌∷◌, ◌++◌, drop, get_or, length, arith, append_assoc, append-nil}
use Rattle.std.proofs.Math.Seq.{drop-cons}
use Rattle.std.proofs.lemmas.List.{drop_all, length-append}
use Rattle.base_language.specs.Language.State.{Trees, None', Tree}
use Rattle.base_language.specs.Pieces.MetaRules.{name_of}
use Rattle.base_language.specs.Pieces.NamedTrees.{named}
use Rattle.matcher_code.specs.declared.state.TreeNode.{TreeNode}
use Rattle.matcher_code.specs.Reached.{count_of, nodes_of}
use Rattle.front_code.specs.Numbers.{AreNumbered, number_of, rule_numbered}
use Rattle.front_nodes.specs.Nodes.{named_trees_of, trees_of}
use Rattle.front_nodes.specs.declared.nodes.TokenNode.{TokenNode}
use Rattle.front_nodes.proofs.NodeLemmas.{trees_of-node}
use Rattle.front_syntax.specs.Building.{nodes_from}
use Rattle.front_syntax.specs.Nodes.{AreNodesOf}

nodes_from-append : (k : ℕ) (xs ys : List TreeNode) → nodes_from k (xs ++ ys) ≡ nodes_from k xs ++ nodes_from (k + length xs) ys
nodes_from-append k [] ys = ap (λ n. nodes_from n ys) (omega arith)
nodes_from-append k (x ∷ xs) ys =
    let n : TokenNode = record { rule = rule_numbered x.rule; start = x.start; end = x.end; inner = x.after - suc k } in
    ap (λ l. n ∷ l) (nodes_from-append (suc k) xs ys ∙ ap (λ m. nodes_from (suc k) xs ++ nodes_from m ys) (omega arith))

length-nodes_from : (k : ℕ) (xs : List TreeNode) → length (nodes_from k xs) ≡ length xs
length-nodes_from k [] = refl
length-nodes_from k (x ∷ xs) = ap suc (length-nodes_from (suc k) xs)

length-nodes_of : (us : Trees) (k : ℕ) → length (nodes_of number_of k us) ≡ count_of us
length-nodes_of None' k = refl
length-nodes_of (Tree r i j inner others) k =
    let a = length-nodes_of inner (suc k) in
    let b = length-nodes_of others (suc k + count_of inner) in
    let e = length-append (nodes_of number_of (suc k) inner) (nodes_of number_of (suc k + count_of inner) others) in
    omega (arith, a, b, e)

of_trees : (us : Trees) (k : ℕ) → AreNumbered us → named_trees_of (nodes_from k (nodes_of number_of k us)) ≡ us
of_trees None' k h = refl
of_trees (Tree r i j inner others) k h =
    let m = suc k + count_of inner in
    let A = nodes_of number_of (suc k) inner in
    let B = nodes_of number_of m others in
    let n : TokenNode = record { rule = rule_numbered (number_of r); start = i; end = j; inner = m - suc k } in
    let long : length A ≡ count_of inner = length-nodes_of inner (suc k) in
    let split : nodes_from (suc k) (A ++ B) ≡ nodes_from (suc k) A ++ nodes_from m B =
    nodes_from-append (suc k) A B ∙ ap (λ q. nodes_from (suc k) A ++ nodes_from q B) (omega (arith, long)) in
    let e1 : m - suc k ≡ count_of inner = omega arith in
    let size : m - suc k ≡ length (nodes_from (suc k) A) = e1 ∙ sym long ∙ sym (length-nodes_from (suc k) A) in
    ap (λ l. named_trees_of (n ∷ l)) split
    ∙ ap named (trees_of-node n (nodes_from (suc k) A) (nodes_from m B) size)
    ∙ (ap (λ w. Tree w i j (named_trees_of (nodes_from (suc k) A)) (named_trees_of (nodes_from m B))) h.0
    ∙ ap₂ (λ a b. Tree r i j a b) (of_trees inner (suc k) h.1) (of_trees others m h.2))

-- one more node
pub one_more : (nodes : List TreeNode) (k m : ℕ) (d : TreeNode) (before after : List TokenNode) (n : TokenNode) → k < length nodes → m ≡ suc k
    → (let t = get_or nodes k d in n ≡ record { rule = rule_numbered t.rule; start = t.start; end = t.end; inner = t.after - suc k }) → after ≡ before ++ n ∷ []
    → before ++ nodes_from k (drop k nodes) ≡ nodes_from 0 nodes → after ++ nodes_from m (drop m nodes) ≡ nodes_from 0 nodes
one_more nodes k m d before after n l f e a h =
    ap₂ (λ x i. x ++ nodes_from i (drop i nodes)) a f
    ∙ append_assoc before (n ∷ []) (nodes_from (suc k) (drop (suc k) nodes))
    ∙ ap (λ x. before ++ x ∷ nodes_from (suc k) (drop (suc k) nodes)) e
    ∙ ap (λ x. before ++ nodes_from k x) (sym (drop-cons nodes k d l))
    ∙ h

pub all_with_rules : (nodes : List TreeNode) (us : Trees) (k : ℕ) (all : List TokenNode) → length nodes ≤ k → all ++ nodes_from k (drop k nodes) ≡ nodes_from 0 nodes
    → AreNodesOf nodes us → named_trees_of all ≡ us
all_with_rules nodes us k all l h x =
    ap named_trees_of (sym (append-nil all) ∙ ap (λ ts. all ++ nodes_from k ts) (sym (drop_all k nodes l)) ∙ h ∙ ap (λ ts. nodes_from 0 ts) x.same)
    ∙ of_trees us 0 x.numbered
