-- What an expression of code says without spans, wherever it stands.
use Rattle.std.proofs.Common.{◌≡◌, refl}
use Rattle.base_ast.specs.Weight.{weight}
use Rattle.front_spanned.specs.Erasure.{without_spans}
use Rattle.front_spanned.specs.Nodes.{piece_of, unplaced, view, view_at}
use Rattle.front_spanned.specs.Spanned.{Span}
use Rattle.front_spanned.specs.declared.node.ParserExpr.{ParserExpr}
use Rattle.front_spanned.specs.declared.node.ParserExpr.TheVariants as is
use Rattle.front_spanned.specs.declared.node.ParserNode.{ParserNode}

-- it is as heavy everywhere
weight_anywhere : (t : Span) (e : ParserExpr) → weight (without_spans (unplaced e)) ≡ weight (without_spans (view_at t e))
weight_anywhere t (is.Str s) = refl
weight_anywhere t _ = refl

-- a node's expression is as heavy as the node
pub weight_unplaced : (n : ParserNode) → weight (without_spans (unplaced n.expr)) ≡ weight (without_spans (view n))
weight_unplaced n = weight_anywhere (piece_of n.span) n.expr
