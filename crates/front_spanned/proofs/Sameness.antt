-- Nodes that are to be compared.
use Rattle.std.proofs.Common.{◌≡◌, Bool, true, false, refl}
use Rattle.front_spanned.specs.NodeEquality.{span_eq, spanned_eq}
use Rattle.front_spanned.specs.Nodes.{piece_of, unplaced, view}
use Rattle.front_spanned.specs.declared.node.ParserNode.{ParserNode}
use Rattle.front_spanned.proofs.NodeTests.{view_eq}

-- two nodes are equal where they stand at one place and say the same
pub apart : (x y : ParserNode) (b : Bool) → b ≡ span_eq (piece_of x.span) (piece_of y.span) → b ≡ false → false ≡ spanned_eq (view x) (view y)
apart x y b h i = rw (view_eq (piece_of x.span) (piece_of y.span) x.expr y.expr, ← h, i) refl

pub together : (x y : ParserNode) (b answer : Bool) → b ≡ span_eq (piece_of x.span) (piece_of y.span) → b ≡ true → answer ≡ spanned_eq (unplaced x.expr) (unplaced y.expr) → answer ≡ spanned_eq (view x) (view y)
together x y b answer h i j = rw (view_eq (piece_of x.span) (piece_of y.span) x.expr y.expr, ← h, i, j) refl
