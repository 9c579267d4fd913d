-- Tests of nodes, and of expressions of code wherever they stand.
use Rattle.std.proofs.Common.{◌≡◌, false, ◌&&◌, [], refl, sym, ap, ◌∙◌}
use Rattle.std.proofs.lemmas.Bool.{and_right}
use Rattle.std.specs.Bool.{Decides}
use Rattle.front_spanned.specs.Spanned.{Span, Spanned, Leaf, One, Two, placed}
use Rattle.front_spanned.specs.NodeEquality.{span_eq, spanned_eq, spanned_eq-Decides}
use Rattle.front_spanned.specs.Nodes.{view_at, unplaced, IsSameExpression}
use Rattle.front_spanned.specs.declared.node.ParserExpr.{ParserExpr}
use Rattle.front_spanned.specs.declared.node.ParserExpr.TheVariants as is

abbrev nowhere : Span
nowhere = record { text = []; start = 0; end = 0 }

-- an expression that is placed elsewhere
placed_view : (t : Span) (e : ParserExpr) → view_at t e ≡ placed t (unplaced e)
placed_view t (is.Str s) = refl
placed_view t _ = refl

-- two nodes are equal where their places are, and they are equal at one place
placed_eq : (s t : Span) (x y : Spanned) → spanned_eq (placed s x) (placed t y) ≡ (span_eq s t && spanned_eq (placed nowhere x) (placed nowhere y))
placed_eq s t (Leaf v a) (Leaf w b) = refl
placed_eq s t (One v f x) (One w g y) = refl
placed_eq s t (Two v f x z) (Two w g y k) = refl
placed_eq s t _ _ = sym (and_right (span_eq s t) false refl)

pub view_eq : (s t : Span) (x y : ParserExpr) → spanned_eq (view_at s x) (view_at t y) ≡ (span_eq s t && spanned_eq (unplaced x) (unplaced y))
view_eq s t x y =
    rw (placed_view s x, placed_view t y, placed_eq s t (unplaced x) (unplaced y), ← placed_view nowhere x, ← placed_view nowhere y) refl

-- the test of two expressions, without their places, decides whether they are the same at each place
pub same_expression-Decides : (x y : ParserExpr) → Decides (spanned_eq (unplaced x) (unplaced y)) (IsSameExpression x y)
same_expression-Decides x y = (
  λ h t. placed_view t x ∙ ap (placed t) ((spanned_eq-Decides (unplaced x) (unplaced y)).0 h) ∙ sym (placed_view t y),
  λ h. (spanned_eq-Decides (unplaced x) (unplaced y)).1 (h nowhere),
)
