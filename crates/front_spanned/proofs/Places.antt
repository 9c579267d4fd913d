-- Nodes stand where they are viewed.
use Rattle.std.proofs.Common.{◌≡◌, refl}
use Rattle.front_spanned.specs.Nodes.{view, view_at, piece_of}
use Rattle.front_spanned.specs.Spanned.{Span, span_of}
use Rattle.front_spanned.specs.declared.node.ParserExpr.{ParserExpr}
use Rattle.front_spanned.specs.declared.node.ParserExpr.TheVariants as is
use Rattle.front_spanned.specs.declared.node.ParserNode.{ParserNode}

pub span_at : (t : Span) (e : ParserExpr) → span_of (view_at t e) ≡ t
span_at t (is.Str s) = refl
span_at t _ = refl

pub span_of-view : (n : ParserNode) → span_of (view n) ≡ piece_of n.span
span_of-view n = span_at (piece_of n.span) n.expr
