-- Sizes of nodes on a stack.
use Rattle.std.proofs.Common.{◌≡◌, ◌∙◌, ℕ, ◌+◌, ◌*◌, ◌<◌, ◌≤◌, List, [], ◌∷◌, ◌++◌, refl, ap, subst, arith}
use Rattle.front_spanned.specs.Nodes.{view}
use Rattle.front_spanned.specs.Spanned.{Binary, Span, Spanned, Leaf, One, Two, Unary}
use Rattle.lint_patterns.specs.Copies.{copies_by}
use Rattle.lint_patterns.specs.Sizes.{nodes, nodes_on}
use Rattle.lint_patterns.specs.declared.copies.Copied.{Copied}

pub nodes_on_push : (cs : List Copied) (c : Copied) → nodes_on (cs ++ (c ∷ [])) ≡ nodes c.copies (view c.node.now) + nodes_on cs
nodes_on_push [] c = omega arith
nodes_on_push (d ∷ cs) c = let h = nodes_on_push cs c in omega arith

-- each copy has a node
pub copies_within : (n : ℕ) (v : Spanned) → n ≤ nodes n v
copies_within n (Leaf s e) = omega arith
copies_within n (One s f x) = omega arith
copies_within n (Two s f x y) = omega arith

-- both operands on a stack
pub both_on : (n : ℕ) (s : Span) (f : Binary) (cs ds es : List Copied) (l r : Copied) (v : Spanned) → v ≡ Two s f (view l.node.now) (view r.node.now) → l.copies ≡ n → r.copies ≡ n
    → ds ≡ cs ++ (r ∷ []) → es ≡ ds ++ (l ∷ []) → nodes_on es + n ≡ nodes_on cs + nodes n v
both_on n s f cs ds es l r v e i j g h =
    let p : nodes_on es ≡ nodes n (view l.node.now) + (nodes n (view r.node.now) + nodes_on cs) = rw (h, nodes_on_push ds l, g, nodes_on_push cs r, i, j) refl in
    let q : nodes n v ≡ n + (nodes n (view l.node.now) + nodes n (view r.node.now)) = ap (nodes n) e in
    omega arith

-- the operand of a repetition on a stack
pub one_on : (n : ℕ) (v x : Spanned) (s : Span) (f : Unary) (k : ℕ) (cs ds : List Copied) (c : Copied) → v ≡ One s f x → k ≡ copies_by f
    → c.copies ≡ n * k → view c.node.now ≡ x → ds ≡ cs ++ (c ∷ []) → nodes_on ds + n ≡ nodes_on cs + nodes n v
one_on n v x s f k cs ds c e i j l g =
    let copies : c.copies ≡ n * copies_by f = j ∙ ap (λ m. n * m) i in
    let p : nodes_on ds ≡ nodes (n * copies_by f) x + nodes_on cs = rw (g, nodes_on_push cs c, copies, l) refl in
    let q : nodes n v ≡ n + nodes (n * copies_by f) x = ap (nodes n) e in
    omega arith

-- a repetition that makes more copies has more nodes
pub one_over : (n most : ℕ) (v x : Spanned) (s : Span) (f : Unary) (k : ℕ) → v ≡ One s f x → k ≡ copies_by f → (n * k ≤ most → ⊥) → most + n < nodes n v
one_over n most v x s f k e i h =
    let many : n * copies_by f ≤ most → ⊥ = subst (λ m. n * m ≤ most → ⊥) i h in
    let q : nodes n v ≡ n + nodes (n * copies_by f) x = ap (nodes n) e in
    let least = copies_within (n * copies_by f) x in
    omega arith
