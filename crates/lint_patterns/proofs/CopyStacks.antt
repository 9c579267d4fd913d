-- Nodes on a stack.
use Rattle.std.proofs.Common.{◌≡◌, ◌∙◌, ℕ, ◌+◌, ◌*◌, ◌<◌, List, [], ◌∷◌, ◌++◌, if◌then◌else◌, map, refl, sym, ap, ap₂, subst, append_assoc, append-nil, lt-ltb, ltb-true, arith}
use Rattle.std.specs.Prelude.{nat_lt}
use Rattle.std.proofs.lemmas.Bool.{false_from_ne_true}
use Rattle.std.proofs.lemmas.List.{map-append}
use Rattle.base_language.specs.Language.Expression.{Expression}
use Rattle.base_language.specs.declared.runtime.places.Span as code
use Rattle.lint_patterns.specs.Copies.{copies_by, crowded, size}
use Rattle.lint_patterns.specs.CopyLists.{left_over, nodes_left}
use Rattle.lint_patterns.specs.declared.copies.Copied.{Copied}
use Rattle.front_spanned.specs.Nodes.{piece_of, view}
use Rattle.front_spanned.specs.Spanned.{Binary, Span, Spanned, Leaf, One, Two, Unary, span_of}
use Rattle.front_spanned.specs.declared.node.ParserNode.{ParserNode}
use Rattle.front_spanned.proofs.Places.{span_of-view}

-- the spans of the crowded nodes of one on a stack
abbrev pub spans : ℕ → Spanned → List Span
spans n x = map span_of (crowded n x)

pub left_over_push : (cs : List Copied) (c : Copied) → left_over (cs ++ (c ∷ [])) ≡ spans c.copies (view c.node.now) ++ left_over cs
left_over_push [] c = sym (append-nil (spans c.copies (view c.node.now)))
left_over_push (d ∷ cs) c = rw (left_over_push cs c) (append_assoc (spans c.copies (view c.node.now)) (left_over cs) (spans d.copies (view d.node.now)))

pub nodes_left_push : (cs : List Copied) (c : Copied) → nodes_left (cs ++ (c ∷ [])) ≡ size (view c.node.now) + nodes_left cs
nodes_left_push [] c = omega arith
nodes_left_push (d ∷ cs) c = let h = nodes_left_push cs c in omega arith

-- one more span
pub push_piece : (found : List code.Span) (n : ParserNode) → map piece_of (found ++ n.span ∷ []) ≡ map piece_of found ++ span_of (view n) ∷ []
push_piece found n = map-append piece_of found (n.span ∷ []) ∙ ap (λ s. map piece_of found ++ s ∷ []) (sym (span_of-view n))

-- both operands on a stack, the left one on top
pub both_left : (n : ℕ) (s : Span) (f : Binary) (cs ds es : List Copied) (l r : Copied) (v : Spanned) → v ≡ Two s f (view l.node.now) (view r.node.now) → l.copies ≡ n → r.copies ≡ n
    → ds ≡ cs ++ (r ∷ []) → es ≡ ds ++ (l ∷ []) → left_over es ≡ spans n v ++ left_over cs
both_left n s f cs ds es l r v e i j g h =
    let x = view l.node.now in
    let y = view r.node.now in
    let p : left_over es ≡ spans n x ++ (spans n y ++ left_over cs) = rw (h, left_over_push ds l, g, left_over_push cs r, i, j) refl in
    let q : spans n v ≡ spans n x ++ spans n y = rw e (map-append span_of (crowded n x) (crowded n y)) in
    p ∙ (sym (append_assoc (spans n x) (spans n y) (left_over cs)) ∙ ap (λ l. l ++ left_over cs) (sym q))

pub both_fewer : (s : Span) (f : Binary) (cs ds es : List Copied) (l r : Copied) (v : Spanned) → v ≡ Two s f (view l.node.now) (view r.node.now)
    → ds ≡ cs ++ (r ∷ []) → es ≡ ds ++ (l ∷ []) → nodes_left es < nodes_left cs + size v
both_fewer s f cs ds es l r v e g h =
    let p : nodes_left es ≡ size (view l.node.now) + (size (view r.node.now) + nodes_left cs) = rw (h, nodes_left_push ds l, g, nodes_left_push cs r) refl in
    let q = ap size e in
    omega arith

few_spans : (n : ℕ) (s : Span) (f : Unary) (x : Spanned) → n * copies_by f < 10000 → spans n (One s f x) ≡ spans (n * copies_by f) x
few_spans n s f x h = ap (λ b. map span_of (if b then crowded (n * copies_by f) x else One s f x ∷ [])) (lt-ltb (n * copies_by f) 10000 h)

many_spans : (n : ℕ) (s : Span) (f : Unary) (x : Spanned) → (n * copies_by f < 10000 → ⊥) → spans n (One s f x) ≡ s ∷ []
many_spans n s f x h =
    ap (λ b. map span_of (if b then crowded (n * copies_by f) x else One s f x ∷ []))
    (false_from_ne_true (nat_lt (n * copies_by f) 10000) (λ e. h (ltb-true (n * copies_by f) 10000 e)))

-- the operand of a repetition that makes few copies, on a stack
pub one_left : (n : ℕ) (v x : Spanned) (s : Span) (f : Unary) (k : ℕ) (cs ds : List Copied) (c : Copied) → v ≡ One s f x → k ≡ copies_by f → n * k < 10000
    → c.copies ≡ n * k → view c.node.now ≡ x → ds ≡ cs ++ (c ∷ []) → left_over ds ≡ spans n v ++ left_over cs
one_left n v x s f k cs ds c e i h j l g =
    let few : n * copies_by f < 10000 = subst (λ m. n * m < 10000) i h in
    let copies : c.copies ≡ n * copies_by f = j ∙ ap (λ m. n * m) i in
    ap left_over g ∙ (left_over_push cs c ∙ ap (λ l. l ++ left_over cs) (ap₂ spans copies l ∙ sym (ap (spans n) e ∙ few_spans n s f x few)))

pub one_fewer : (v x : Spanned) (s : Span) (f : Unary) (cs ds : List Copied) (c : Copied) → v ≡ One s f x → view c.node.now ≡ x → ds ≡ cs ++ (c ∷ []) → nodes_left ds < nodes_left cs + size v
one_fewer v x s f cs ds c e l g =
    let p = ap nodes_left g ∙ nodes_left_push cs c in
    let q = ap size e in
    let r = ap size l in
    omega arith

-- the span of one that makes many
pub many_told : (n : ℕ) (node : ParserNode) (x : Spanned) (s : Span) (f : Unary) (k : ℕ) (found after : List code.Span) (left : List Span) → view node ≡ One s f x → k ≡ copies_by f
    → (n * k < 10000 → ⊥) → after ≡ found ++ node.span ∷ [] → map piece_of after ++ left ≡ map piece_of found ++ (spans n (view node) ++ left)
many_told n node x s f k found after left e i h g =
    let many : n * copies_by f < 10000 → ⊥ = subst (λ m. n * m < 10000 → ⊥) i h in
    let own : span_of (view node) ≡ s = ap span_of e in
    let told : spans n (view node) ≡ s ∷ [] = ap (spans n) e ∙ many_spans n s f x many in
    ap (λ l. l ++ left) (ap (map piece_of) g ∙ (push_piece found node ∙ ap (λ t. map piece_of found ++ t ∷ []) own))
    ∙ (append_assoc (map piece_of found) (s ∷ []) left ∙ ap (λ l. map piece_of found ++ (l ++ left)) (sym told))
