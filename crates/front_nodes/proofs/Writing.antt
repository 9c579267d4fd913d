-- The nodes of trees, while some trees are open.
use Rattle.std.proofs.Common.{◌≡◌, ℕ, zero, suc, ◌+◌, ◌-◌, ◌<◌, ◌≤◌, List, [], ◌∷◌, ◌++◌, fold, length, get_or, set, refl, sym, ap, ap₂, ◌∙◌, append-nil, append_assoc, arith}
use Rattle.std.proofs.lemmas.List.Sums.{fold_push}
use Rattle.base_language.specs.Pieces.TokenTrees.{TokenTrees, NoTokens, Token}
use Rattle.base_language.specs.Pieces.TreeViews as of_code
use Rattle.base_language.specs.declared.grammar.Rule.{Rule}
use Rattle.front_nodes.specs.Nodes.{nodes_of}
use Rattle.front_nodes.specs.Writing.{with_inner}
use Rattle.front_nodes.specs.declared.forest.OpenTree.{OpenTree}
use Rattle.front_nodes.specs.declared.nodes.TokenNode.{TokenNode}

-- one node is written
pub inner_set : (ns : List TokenNode) (k x : ℕ) (n : TokenNode) → k < length ns → n ≡ get_or ns k n → x ≡ length ns - k - 1
    → set ns k (record n { inner = x }) ≡ with_inner k ns
inner_set [] k x n h at e = absurd (omega (arith, h))
inner_set (m ∷ ns) zero x n h at e = ap₂ (λ (p : TokenNode) i. record p { inner = i } ∷ ns) at (omega (arith, e))
inner_set (m ∷ ns) (suc k) x n h at e = ap (λ l. m ∷ l) (inner_set ns k x n (omega (arith, h)) at (omega (arith, e)))

pub with_inner-beyond : (ns : List TokenNode) (k : ℕ) → length ns ≤ k → ns ≡ with_inner k ns
with_inner-beyond [] k h = refl
with_inner-beyond (n ∷ ns) zero h = absurd (omega (arith, h))
with_inner-beyond (n ∷ ns) (suc k) h = ap (λ l. n ∷ l) (with_inner-beyond ns k (omega (arith, h)))

with_inner-at : (front behind : List TokenNode) (n : TokenNode) (k : ℕ) → k ≡ length front
    → with_inner k (front ++ n ∷ behind) ≡ front ++ record n { inner = length behind } ∷ behind
with_inner-at [] behind n k e = ap (λ i. with_inner i (n ∷ behind)) e
with_inner-at (m ∷ front) behind n k e =
    ap (λ i. with_inner i (m ∷ (front ++ n ∷ behind))) e ∙ ap (λ l. m ∷ l) (with_inner-at front behind n (length front) refl)

-- all nodes, where these are written and the last open tree ends with them
abbrev ended : OpenTree → List TokenNode → List TokenNode
ended o ns = with_inner o.number ns ++ nodes_of (of_code.trees_of o.others.now)

abbrev pub all_nodes : List OpenTree → List TokenNode → List TokenNode
all_nodes [] ns = ns
all_nodes (o ∷ os) ns = ended o (all_nodes os ns)

all_nodes-push : (os : List OpenTree) (o : OpenTree) (ns : List TokenNode) → all_nodes (os ++ o ∷ []) ns ≡ all_nodes os (ended o ns)
all_nodes-push [] o ns = refl
all_nodes-push (p ∷ os) o ns = ap (ended p) (all_nodes-push os o ns)

-- a tree is opened
pub opens : (os after : List OpenTree) (o : OpenTree) (ns more : List TokenNode) (tree inner : TokenTrees Rule) (rule : Rule) (i j : ℕ) → after ≡ os ++ o ∷ []
    → o.number ≡ length ns → more ≡ ns ++ record { rule = rule; start = i; end = j; inner = 0 } ∷ []
    → tree ≡ Token rule i j inner (of_code.trees_of o.others.now)
    → all_nodes after (more ++ nodes_of inner) ≡ all_nodes os (ns ++ nodes_of tree)
opens os after o ns more tree inner rule i j a b c d =
    let n : TokenNode = record { rule = rule; start = i; end = j; inner = 0 } in
    let others = nodes_of (of_code.trees_of o.others.now) in
    ap (λ l. all_nodes l (more ++ nodes_of inner)) a
    ∙ all_nodes-push os o (more ++ nodes_of inner)
    ∙ ap (λ l. all_nodes os (with_inner o.number (l ++ nodes_of inner) ++ others)) c
    ∙ ap (λ l. all_nodes os (with_inner o.number l ++ others)) (append_assoc ns (n ∷ []) (nodes_of inner))
    ∙ ap (λ l. all_nodes os (l ++ others)) (with_inner-at ns (nodes_of inner) n o.number b)
    ∙ ap (all_nodes os) (append_assoc ns (record n { inner = length (nodes_of inner) } ∷ nodes_of inner) others)
    ∙ ap (λ t. all_nodes os (ns ++ nodes_of t)) (sym d)

-- the last open tree ends
pub ends : (before os : List OpenTree) (o : OpenTree) (ns now : List TokenNode) (none : TokenTrees Rule) → before ≡ os ++ o ∷ [] → none ≡ NoTokens
    → now ≡ with_inner o.number ns
    → all_nodes os (now ++ nodes_of (of_code.trees_of o.others.now)) ≡ all_nodes before (ns ++ nodes_of none)
ends before os o ns now none a b c =
    ap (λ l. all_nodes os (l ++ nodes_of (of_code.trees_of o.others.now))) c
    ∙ sym (all_nodes-push os o ns)
    ∙ ap (all_nodes (os ++ o ∷ [])) (sym (append-nil ns) ∙ ap (λ t. ns ++ nodes_of t) (sym b))
    ∙ ap (λ l. all_nodes l (ns ++ nodes_of none)) (sym a)

-- how many steps are left
abbrev pub steps : TokenTrees Rule → ℕ
steps NoTokens = 1
steps (Token rule start end_ inner others) = 1 + (steps inner + steps others)

abbrev pub waiting_steps : List OpenTree → ℕ
waiting_steps os = fold (λ n o. steps (of_code.trees_of o.others.now) + n) 0 os

pub waiting_steps-push : (os : List OpenTree) (o : OpenTree) → waiting_steps (os ++ o ∷ []) ≡ steps (of_code.trees_of o.others.now) + waiting_steps os
waiting_steps-push os o = fold_push (λ n o. steps (of_code.trees_of o.others.now) + n) 0 os o
