-- What stands in a list stands there when more is put behind it.
use Rattle.std.proofs.Common.{◌+◌, ◌<◌, map, take, get_or, sym, subst, ◌⊎◌, inl, inr, ◌≡◌, ℕ, List, slice_get, zero, suc, ◌∷◌, [], ◌++◌, Some, length, refl, ◌∙◌, ap, ap₂, arith}
use Rattle.std.proofs.lemmas.List.{length_push, append_assoc, map-append, take_more}
use Rattle.base_language.proofs.Basics.{got_more}
use Rattle.front_spanned.specs.Nodes.{piece_of}
use Rattle.front_spanned.specs.Spanned.{span_of, Spanned, Leaf, One, Two}
use Rattle.front_spanned.proofs.Places.{span_at}
use Rattle.front_analysis.specs.Nodes.{postorder}
use Rattle.front_analysis.specs.Shapes.{AreNodes, IsNode, IsShape}
use Rattle.front_analysis.specs.declared.shapes.Shape.{Shape}
use Rattle.front_analysis.specs.declared.table.Node.{Node}

-- what is in the list stays there
pub got_before : {A : Type 0} (xs ys : List A) (k : ℕ) (n : A) → slice_get xs k ≡ Some n → slice_get (xs ++ ys) k ≡ Some n
got_before [] ys k n e = cc
got_before (x ∷ xs) ys zero n e = e
got_before (x ∷ xs) ys (suc k) n e = got_before xs ys k n e

pub got_end : {A : Type 0} (xs : List A) (y : A) → slice_get (xs ++ y ∷ []) (length xs) ≡ Some y
got_end [] y = refl
got_end (x ∷ xs) y = got_end xs y

shape_more : (nodes more : List Spanned) (i : ℕ) (k : Shape) (x : Spanned) → IsShape nodes i k x → IsShape (nodes ++ more) i k x
shape_more nodes more i k (Leaf s e) h = h
shape_more nodes more i k (One s f x) h = (h.0, h.1, got_before nodes more h.0 x h.2, h.3)
shape_more nodes more i k (Two s f x y) h = (h.0, h.1, h.2, h.3, got_before nodes more h.0 x h.4, got_before nodes more h.1 y h.5, h.6)

node_more : (nodes more : List Spanned) (i : ℕ) (n : Node) (x : Spanned) → IsNode nodes i n x → IsNode (nodes ++ more) i n x
node_more nodes more i n x h = record { said = h.said; shape = shape_more nodes more i n.shape x h.shape; start = h.start }

-- a node that is pushed stands behind those that were there
pub nodes_pushed : (nodes : List Spanned) (mid new : List Node) (k : Node) (own : ℕ) (x : Spanned) → new ≡ mid ++ k ∷ [] → own ≡ length mid → AreNodes nodes mid → IsNode nodes own k x → AreNodes (nodes ++ x ∷ []) new
nodes_pushed nodes mid new k own x e l h f = record {
  alike = (let a = length_push mid k in let b = length_push nodes x in let c = h.alike in let d = ap (λ z. length z) e in omega arith);
  fit = λ i y g. go i y (got_more nodes x i y g);
}
  where
    go : (i : ℕ) (y : Spanned) → (slice_get nodes i ≡ Some y) ⊎ ((i ≡ length nodes) × (x ≡ y)) → (q : Node) × (slice_get new i ≡ Some q) × IsNode (nodes ++ x ∷ []) i q y
    go i y (inl g) = let (q, at, fit) = h.fit i y g in (q, ap (λ z. slice_get z i) e ∙ got_before mid (k ∷ []) i q at, node_more nodes (x ∷ []) i q y fit)
    go i y (inr g) = let j : i ≡ length mid = g.0 ∙ sym h.alike in (
      k,
      ap (λ z. slice_get z i) e ∙ (ap (slice_get (mid ++ k ∷ [])) j ∙ got_end mid k),
      subst (λ z. IsNode (nodes ++ x ∷ []) i k z) g.1 (subst (λ n. IsNode (nodes ++ x ∷ []) n k x) (l ∙ sym j) (node_more nodes (x ∷ []) own k x f)),
    )

-- one element more of a list, each as `f` has it
pub mapped_more : {A B : Type 0} (f : A → B) (xs : List A) (i : ℕ) (d : A) (old new : List B) (y : B) → i < length xs → new ≡ old ++ y ∷ [] → y ≡ f (get_or xs i d) → old ≡ map f (take i xs) → new ≡ map f (take (i + 1) xs)
mapped_more f xs i d old new y l e is h =
    e ∙ (ap (λ z. z ++ y ∷ []) h ∙ (ap (λ z. map f (take i xs) ++ z ∷ []) is
    ∙ (sym (map-append f (take i xs) (get_or xs i d ∷ [])) ∙ ap (map f) (sym (take_more xs i d l)))))

-- a node is behind all nodes below it
ends : (x : Spanned) → (front : List Spanned) × (postorder x ≡ front ++ x ∷ [])
ends (Leaf s e) = ([], refl)
ends (One s f x) = (postorder x, refl)
ends (Two s f x y) = (postorder x ++ postorder y, refl)

pub found_last : (nodes : List Spanned) (x : Spanned) (own : ℕ) → length (nodes ++ postorder x) ≡ own + 1 → slice_get (nodes ++ postorder x) own ≡ Some x
found_last nodes x own l =
    let (front, e) = ends x in
    let all : nodes ++ postorder x ≡ (nodes ++ front) ++ x ∷ [] = ap (λ z. nodes ++ z) e ∙ sym (append_assoc nodes front (x ∷ [])) in
    let n : length (nodes ++ front) ≡ own = (let a = length_push (nodes ++ front) x in let b = ap (λ z. length z) all in omega arith) in
    ap (λ z. slice_get z own) all ∙ (ap (slice_get ((nodes ++ front) ++ x ∷ [])) (sym n) ∙ got_end (nodes ++ front) x)

-- the spans of the nodes
pub spans_alike : (all : List Spanned) (ns : List Node) → AreNodes all ns → map (λ (n : Node). piece_of n.span.now) ns ≡ map span_of all
spans_alike all ns h = go all ns h.alike (λ i x g. let (n, at, is) = h.fit i x g in (n, at, sym (span_at (piece_of n.span.now) n.expr.now) ∙ ap span_of is.said))
  where
    go : (xs : List Spanned) (ms : List Node) → length ms ≡ length xs → ((i : ℕ) (x : Spanned) → slice_get xs i ≡ Some x → (n : Node) × (slice_get ms i ≡ Some n) × (piece_of n.span.now ≡ span_of x))
        → map (λ (n : Node). piece_of n.span.now) ms ≡ map span_of xs
    go [] [] l f = refl
    go [] (m ∷ ms) l f = absurd (omega arith)
    go (x ∷ xs) [] l f = absurd (omega arith)
    go (x ∷ xs) (m ∷ ms) l f =
        let (n, at, e) = f 0 x refl in
        let same : m ≡ n = cc in
        ap₂ (λ y ys. y ∷ ys) (ap (λ (k : Node). piece_of k.span.now) same ∙ e) (go xs ms (omega arith) (λ i y g. f (suc i) y g))
