-- Nodes as spanned expressions, and where they stand.
use Rattle.front_reader.proofs.SpansArePieces.{piece_in}
use Rattle.std.proofs.Common.{◌≡◌, ℕ, List, refl, sym, ap, ◌∙◌, subst, arith}
use Rattle.base_language.specs.Language.Text.{Text}
use Rattle.base_language.specs.Language.State.{Trees, Tree}
use Rattle.base_language.specs.Pieces.Saying.{piece}
use Rattle.front_reader.specs.Pieces.{IsPiece}
use Rattle.front_reader.specs.Reading.{Postfixed, more, both}
use Rattle.front_spanned.specs.Spanned as spanned
use Rattle.front_spanned.specs.Spanned.{Spanned, span_of, start_of, end_of, placed, One, Two, Binary}
use Rattle.front_reader.specs.Views.{IsNodeBefore, IsPostfixOf}
use Rattle.front_spanned.specs.Nodes.{view, view_at}
use Rattle.front_spanned.specs.declared.node.ParserExpr as expr
use Rattle.front_spanned.specs.declared.node.ParserExpr.TheVariants as is
use Rattle.front_spanned.specs.declared.node.ParserNode.{ParserNode}
use Rattle.front_spanned.proofs.Places.{span_of-view}
use Rattle.front_reader.proofs.TreesStandInText.{nested_order}

pub start_of-view : (n : ParserNode) → start_of (view n) ≡ n.span.start
start_of-view n = ap (λ (s : spanned.Span). s.start) (span_of-view n)

pub end_of-view : (n : ParserNode) → end_of (view n) ≡ n.span.end
end_of-view n = ap (λ (s : spanned.Span). s.end) (span_of-view n)

-- a node that is placed elsewhere
pub view_at-placed : (t u : spanned.Span) (e : expr.ParserExpr) → view_at u e ≡ placed u (view_at t e)
view_at-placed t u (is.Str s) = refl
view_at-placed t u _ = refl

module _ (text : List ℕ) where
  -- from a node's start to the end of an operator behind it
  pub piece_round : {r : Text} {a b : ℕ} {inner us : Trees} (n : ParserNode)
      → IsNodeBefore text n (Tree r a b inner us) → IsPiece text n.span.start b
  piece_round {r} {a} {b} {inner} n h =
      let d = h.behind.nested in
      let p = piece_in n.span h.same_text in
      record { starts = p.starts; ends = d.2; order = omega (arith, p.order, d.0, nested_order text inner a b d.3) }

  -- the operator's node stands before the next
  pub before_next : {r : Text} {a b : ℕ} {inner us : Trees} (n x : ParserNode) (s : spanned.Span)
      → IsNodeBefore text n (Tree r a b inner us) → s ≡ piece text n.span.start b
      → IsPostfixOf text r inner s n x → IsNodeBefore text x us
  before_next n x s h e p =
      let t = sym (span_of-view x) ∙ ap span_of p.round ∙ e in
      record { same_text = ap (λ (v : spanned.Span). v.text) t; behind = record { to = h.behind.to; nested = rw (ap (λ (v : spanned.Span). v.end) t) h.behind.nested.4 } }

  pub postfixed_more : {r : Text} {a b : ℕ} {inner us : Trees} {y : Spanned}
      (n x : ParserNode) (s : spanned.Span)
      → s ≡ piece text n.span.start b → IsPostfixOf text r inner s n x → Postfixed text (view x) us y
      → Postfixed text (view n) (Tree r a b inner us) y
  postfixed_more {b = b} {us = us} {y = y} n x s e p d =
      let t = e ∙ ap (λ (v : spanned.Span). piece text v.start b) (sym (span_of-view n)) in
      let q = p.round ∙ ap (λ v. One v p.operator (view n)) t in
      more p.says (subst (λ v. Postfixed text v us y) q d)

-- a postfix operator's node, in the text of its span
pub postfix_in : {t text : List ℕ} {r : Text} {us : Trees} {s : spanned.Span} {n x : ParserNode} → t ≡ text
    → IsPostfixOf t r us s n x → IsPostfixOf text r us s n x
postfix_in {r = r} {us = us} {s = s} {n = n} {x = x} e h = subst (λ v. IsPostfixOf v r us s n x) e h

pub both_of_views : (text : List ℕ) (f : Binary) (m n : ParserNode)
    → Two (piece text m.span.start n.span.end) f (view m) (view n) ≡ both text f (view m) (view n)
both_of_views text f m n = rw (start_of-view m, end_of-view n) refl
