-- Nodes on a stack, and the spans found on the way.
use Rattle.std.proofs.Common.{◌≡◌, ◌∙◌, ℕ, ◌+◌, ◌<◌, List, [], ◌∷◌, ◌++◌, Bool, true, false, ◌&&◌, if◌then◌else◌, map, refl, sym, ap, ap₂, append_assoc, append-nil, length, length-append, arith}
use Rattle.std.proofs.lemmas.List.{map-append}
use Rattle.base_language.specs.declared.runtime.places.Span as code
use Rattle.lint_patterns.specs.Duplicates.{is_among, is_compared, repeated_after, repeated_here, repeated_in, span_if_repeated}
use Rattle.lint_patterns.specs.DuplicateLists.{CollectsRepeated, KeySet, KnowsKeys, inner_spans, nodes_left, spans_left}
use Rattle.lint_patterns.specs.declared.alternatives.Placed.{Placed}
use Rattle.front_spanned.specs.Erasure.{without_spans}
use Rattle.front_spanned.specs.Nodes.{piece_of, view, view_at}
use Rattle.front_spanned.specs.Spanned as spanned
use Rattle.front_spanned.specs.Spanned.{Span, Spanned, Leaf, One, Two, span_of}
use Rattle.front_spanned.specs.Walk.{preorder}
use Rattle.front_spanned.specs.declared.node.ParserExpr.{ParserExpr}
use Rattle.front_spanned.specs.declared.node.ParserExpr as expr
use Rattle.front_spanned.specs.declared.node.ParserExpr.TheVariants as is
use Rattle.front_spanned.specs.declared.node.ParserNode.{ParserNode}
use Rattle.front_spanned.proofs.Places.{span_of-view}
use Rattle.lint_warnings.specs.Choices.{alternatives}

pub spans_left_push : (ps : List Placed) (p : Placed) → spans_left (ps ++ (p ∷ [])) ≡ repeated_in p.is_alternative (view p.node.now) ++ spans_left ps
spans_left_push [] p = sym (append-nil (repeated_in p.is_alternative (view p.node.now)))
spans_left_push (q ∷ ps) p = rw (spans_left_push ps p) (append_assoc (repeated_in p.is_alternative (view p.node.now)) (spans_left ps) (repeated_in q.is_alternative (view q.node.now)))

pub nodes_left_push : (ps : List Placed) (p : Placed) → nodes_left (ps ++ (p ∷ [])) ≡ length (preorder (view p.node.now)) + nodes_left ps
nodes_left_push [] p = omega arith
nodes_left_push (q ∷ ps) p = let h = nodes_left_push ps p in omega arith

-- the spans of a node are those here and those inside
pub here_and_inside : (inside : Bool) (x : Spanned) → repeated_in inside x ≡ repeated_here inside x ++ inner_spans x
here_and_inside true (Leaf s e) = refl
here_and_inside true (One s f x) = refl
here_and_inside true (Two s spanned.Seq x y) = refl
here_and_inside true (Two s spanned.Choice x y) = refl
here_and_inside false (Leaf s e) = refl
here_and_inside false (One s f x) = refl
here_and_inside false (Two s spanned.Seq x y) = refl
here_and_inside false (Two s spanned.Choice x y) = refl

pub inner_fewer : (s : Span) (f : spanned.Binary) (v x y : Spanned) (n k : ℕ) → v ≡ Two s f x y → k ≡ length (preorder x) + (length (preorder y) + n) → k < length (preorder v) + n
inner_fewer s f v x y n k e h =
    let p = ap (λ w. length (preorder w)) e in
    let q = length-append (preorder x) (preorder y) in
    omega arith

-- one more span
pub push_piece : (found : List code.Span) (n : ParserNode) → map piece_of (found ++ n.span ∷ []) ≡ map piece_of found ++ span_of (view n) ∷ []
push_piece found n = map-append piece_of found (n.span ∷ []) ∙ ap (λ s. map piece_of found ++ s ∷ []) (sym (span_of-view n))

-- a node that is no choice is its one alternative
pub no_choice : (t : Span) (e : ParserExpr) → ((x y : _) → e ≡ expr.Choice x y → ⊥) → alternatives (view_at t e) ≡ view_at t e ∷ []
no_choice t (is.Choice' p e s q f u) h = absurd (h _ _ refl)
no_choice t _ h = refl

-- and has no repeated alternatives
pub none_here : (inside : Bool) (t : Span) (e : ParserExpr) → ((x y : _) → e ≡ expr.Choice x y → ⊥) → repeated_here inside (view_at t e) ≡ []
none_here inside t (is.Choice' p e s q f u) h = absurd (h _ _ refl)
none_here true t _ h = refl
none_here false t _ h = refl

-- an alternative that is not compared
pub none_if : (earlier : List Spanned) (x : Spanned) → is_compared (without_spans x) ≡ false → span_if_repeated earlier x ≡ []
none_if earlier x h = ap (λ b. if b && is_among earlier (without_spans x) then span_of x ∷ [] else []) h

pub some_if : (earlier : List Spanned) (x : Spanned) (b : Bool) → is_compared (without_spans x) ≡ true → is_among earlier (without_spans x) ≡ b → span_if_repeated earlier x ≡ (if b then span_of x ∷ [] else [])
some_if earlier x b h k =
    ap (λ a. if a && is_among earlier (without_spans x) then span_of x ∷ [] else []) h
    ∙ ap (λ a. if a then span_of x ∷ [] else []) k

pub spans_along : (all : List Span) (earlier left right : List Spanned) (seen : KeySet) (found : List Span) → left ≡ right → CollectsRepeated all earlier left seen found → CollectsRepeated all earlier right seen found
spans_along all earlier left right seen found e h = record {
  knows = h.knows;
  spans = h.spans ∙ ap (λ l. found ++ repeated_after earlier l) e;
}

-- the next alternative was looked at
pub spans_more : (all : List Span) (earlier left : List Spanned) (x : Spanned) (old new : KeySet) (found after : List Span) → CollectsRepeated all earlier (x ∷ left) old found
    → after ≡ found ++ span_if_repeated earlier x → KnowsKeys (earlier ++ x ∷ []) new → CollectsRepeated all (earlier ++ x ∷ []) left new after
spans_more all earlier left x old new found after h e known = record {
  knows = known;
  spans = h.spans ∙ (sym (append_assoc found (span_if_repeated earlier x) (repeated_after (earlier ++ x ∷ []) left)) ∙ ap (λ l. l ++ repeated_after (earlier ++ x ∷ []) left) (sym e));
}

-- two nodes on a stack, the left one on top
pub both_spans : (ps qs rs : List Placed) (l r : Placed) → qs ≡ ps ++ (r ∷ []) → rs ≡ qs ++ (l ∷ [])
    → spans_left rs ≡ repeated_in l.is_alternative (view l.node.now) ++ (repeated_in r.is_alternative (view r.node.now) ++ spans_left ps)
both_spans ps qs rs l r g h = rw (h, spans_left_push qs l, g, spans_left_push ps r) refl

pub both_nodes : (ps qs rs : List Placed) (l r : Placed) → qs ≡ ps ++ (r ∷ []) → rs ≡ qs ++ (l ∷ [])
    → nodes_left rs ≡ length (preorder (view l.node.now)) + (length (preorder (view r.node.now)) + nodes_left ps)
both_nodes ps qs rs l r g h = rw (h, nodes_left_push qs l, g, nodes_left_push ps r) refl

-- the operand of a node on a stack
pub one_spans : (v x : Spanned) (s : Span) (f : spanned.Unary) (ps qs : List Placed) (p : Placed) → v ≡ One s f x → view p.node.now ≡ x → p.is_alternative ≡ false → qs ≡ ps ++ (p ∷ []) → spans_left qs ≡ inner_spans v ++ spans_left ps
one_spans v x s f ps qs p e h i g =
    ap spans_left g ∙ (spans_left_push ps p ∙ ap (λ l. l ++ spans_left ps) (ap₂ repeated_in i h ∙ sym (ap inner_spans e)))

pub one_fewer : (v x : Spanned) (s : Span) (f : spanned.Unary) (ps qs : List Placed) (p : Placed) → v ≡ One s f x → view p.node.now ≡ x → qs ≡ ps ++ (p ∷ []) → nodes_left qs < length (preorder v) + nodes_left ps
one_fewer v x s f ps qs p e h g =
    let k = ap nodes_left g ∙ nodes_left_push ps p in
    let l = ap (λ w. length (preorder w)) e in
    let m = ap (λ w. length (preorder w)) h in
    omega arith
