-- Steps of the walks, and the spans found on the way.
use Rattle.std.proofs.Common.{◌≡◌, ℕ, ◌+◌, ◌<◌, List, [], ◌∷◌, ◌++◌, Bor, map, length, refl, sym, ap, ◌∙◌, append_assoc, append-nil, length-append, arith}
use Rattle.std.proofs.lemmas.Grind.{flat_map-append}
use Rattle.std.proofs.lemmas.List.{map-append}
use Rattle.front_spanned.specs.Nodes.{piece_of, view, view_at}
use Rattle.front_spanned.specs.Spanned.{Spanned, Span, Leaf, One, Two, Choice, span_of}
use Rattle.front_spanned.specs.Erasure.{without_spans}
use Rattle.front_spanned.specs.Walk.{preorder, waiting}
use Rattle.front_spanned.specs.declared.node.ParserExpr.{ParserExpr}
use Rattle.front_spanned.specs.declared.node.ParserExpr as expr
use Rattle.front_spanned.specs.declared.node.ParserExpr.TheVariants as is
use Rattle.front_spanned.specs.declared.node.ParserNode.{ParserNode}
use Rattle.front_spanned.proofs.Walks.{operands_wait}
use Rattle.front_spanned.proofs.Places.{span_of-view}
use Rattle.base_language.specs.declared.runtime.places.Span as code
use Rattle.base_language.specs.Language.Builtins.{is_one_of}
use Rattle.lint_warnings.specs.Choices.{alternatives, beginning_of, call_of, calls, first_call_of, literal_of, literals, own_call, own_literal, span_if_begun, unreachable_after}
use Rattle.lint_warnings.specs.Lists.{AreOperands, CollectsUnreachable, HasNames, Knows, TextSet, left_over}
use Rattle.lint_warnings.specs.declared.literals.Literals.{Literals}
use Rattle.lint_warnings.specs.declared.nodes.Operands.{Operands}
use Rattle.lint_warnings.specs.declared.nodes.Operands.TheVariants as operands

-- one more span
pub push_piece : (found : List code.Span) (n : ParserNode) → map piece_of (found ++ n.span ∷ []) ≡ map piece_of found ++ span_of (view n) ∷ []
push_piece found n = map-append piece_of found (n.span ∷ []) ∙ ap (λ s. map piece_of found ++ s ∷ []) (sym (span_of-view n))

-- the alternatives on a stack
pub left_over_push : (ns : List (Bor ParserNode)) (n : Bor ParserNode) → left_over (ns ++ (n ∷ [])) ≡ alternatives (view n.now) ++ left_over ns
left_over_push [] n = sym (append-nil (alternatives (view n.now)))
left_over_push (m ∷ ns) n = rw (left_over_push ns n) (append_assoc (alternatives (view n.now)) (left_over ns) (alternatives (view m.now)))

pub sides_left : (s : Span) (v : Spanned) (ns ms ks : List (Bor ParserNode)) (l r : Bor ParserNode) → v ≡ Two s Choice (view l.now) (view r.now) → ms ≡ ns ++ (r ∷ []) → ks ≡ ms ++ (l ∷ []) → alternatives v ++ left_over ns ≡ left_over ks
sides_left s v ns ms ks l r e g h =
    let p : left_over ks ≡ alternatives (view l.now) ++ (alternatives (view r.now) ++ left_over ns) = rw (h, left_over_push ms l, g, left_over_push ns r) refl in
    rw (p, e) (append_assoc (alternatives (view l.now)) (alternatives (view r.now)) (left_over ns))

preorder_some : (v : Spanned) → 0 < length (preorder v)
preorder_some (Leaf s e) = omega arith
preorder_some (One s f x) = omega arith
preorder_some (Two s f x y) = omega arith

pub fewer : (v : Spanned) (n : ℕ) → n < length (preorder v) + n
fewer v n = let h = preorder_some v in omega arith

pub sides_fewer : (s : Span) (v : Spanned) (ns ms ks : List (Bor ParserNode)) (l r : Bor ParserNode) → v ≡ Two s Choice (view l.now) (view r.now) → ms ≡ ns ++ (r ∷ []) → ks ≡ ms ++ (l ∷ []) → length (waiting ks) < length (preorder v) + length (waiting ns)
sides_fewer s v ns ms ks l r e g h =
    let w = ap length (operands_wait s Choice v ns ms ks l r e g h) ∙ length-append (preorder v) (waiting ns) in
    omega arith

-- a node that is no choice is its one alternative
pub only_choice : (v : Spanned) (o : Operands) → AreOperands v o → ((x y : Bor ParserNode) → o ≡ operands.Choice x y → ⊥) → alternatives v ≡ v ∷ []
only_choice v operands.None (s, e, h) f = rw h refl
only_choice v (operands.One x) (s, u, h) f = rw h refl
only_choice v (operands.Sequence x y) (s, h) f = rw h refl
only_choice v (operands.Choice x y) h f = absurd (f x y refl)

-- a node that is no sequence begins with the literal that it is
pub no_sequence : (t : Span) (e : ParserExpr) → ((x y : _) → e ≡ expr.Seq x y → ⊥) → beginning_of (without_spans (view_at t e)) ≡ literal_of (without_spans (view_at t e))
no_sequence t (is.Str s) h = refl
no_sequence t (is.Seq' p e s q f u) h = absurd (h _ _ refl)
no_sequence t _ h = refl

-- nor calls another first
pub no_first_call : (t : Span) (e : ParserExpr) → ((x y : _) → e ≡ expr.Seq x y → ⊥) → first_call_of (without_spans (view_at t e)) ≡ call_of (without_spans (view_at t e))
no_first_call t (is.Ident s) h = refl
no_first_call t (is.Seq' p e s q f u) h = absurd (h _ _ refl)
no_first_call t _ h = refl

calls_more : (earlier : List Spanned) (x : Spanned) → calls (earlier ++ x ∷ []) ≡ calls earlier ++ own_call x
calls_more earlier x = flat_map-append own_call earlier (x ∷ []) ∙ ap (λ l. calls earlier ++ l) (append-nil (own_call x))

pub literals_more : (earlier : List Spanned) (x : Spanned) → literals (earlier ++ x ∷ []) ≡ literals earlier ++ own_literal x
literals_more earlier x = flat_map-append own_literal earlier (x ∷ []) ∙ ap (λ l. literals earlier ++ l) (append-nil (own_literal x))

-- the next alternative was looked at
pub spans_more : (all : List Span) (earlier left : List Spanned) (x : Spanned) (old new : Literals) (had has : TextSet) (found after : List Span) → CollectsUnreachable all earlier (x ∷ left) old had found
    → (Knows (literals earlier) old → HasNames (is_one_of (calls earlier)) had → after ≡ found ++ span_if_begun (literals earlier) (calls earlier) x)
    → (Knows (literals earlier) old → Knows (literals earlier ++ own_literal x) new)
    → (HasNames (is_one_of (calls earlier)) had → HasNames (is_one_of (calls earlier ++ own_call x)) has) → CollectsUnreachable all (earlier ++ x ∷ []) left new has after
spans_more all earlier left x old new had has found after h span_added adds calls_added = record {
  knows = rw (literals_more earlier x) (adds h.knows);
  names = rw (calls_more earlier x) (calls_added h.names);
  spans = h.spans ∙ (sym (append_assoc found (span_if_begun (literals earlier) (calls earlier) x) (unreachable_after (earlier ++ x ∷ []) left)) ∙ ap (λ l. l ++ unreachable_after (earlier ++ x ∷ []) left) (sym (span_added h.knows h.names)));
}

pub spans_along : (all : List Span) (earlier left right : List Spanned) (known : Literals) (called : TextSet) (found : List Span) → left ≡ right → CollectsUnreachable all earlier left known called found → CollectsUnreachable all earlier right known called found
spans_along all earlier left right known called found e h = record {
  knows = h.knows;
  names = h.names;
  spans = h.spans ∙ ap (λ l. found ++ unreachable_after earlier l) e;
}
