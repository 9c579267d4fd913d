-- Views of nodes and rules of code: expressions with their pieces of the text, without memory.
use Rattle.std.specs.Prelude.{◌≡◌, List, [], map}
use Rattle.base_language.specs.Language.Expression as bare
use Rattle.base_ast.specs.Ast.{text_of, rule_type_of}
pub use Rattle.base_language.specs.Pieces.Saying.{piece_of}
use Rattle.base_ast.specs.declared.ast.RuleType as code_type
use Rattle.front_spanned.specs.Spanned as spanned
use Rattle.front_spanned.specs.Spanned.{Spanned, Span, Leaf, One, Two, SpannedRule}
use Rattle.front_spanned.specs.declared.node.ParserExpr as code
use Rattle.front_spanned.specs.declared.node.ParserExpr.TheVariants as is
use Rattle.front_spanned.specs.declared.node.ParserNode.{ParserNode}
use Rattle.front_spanned.specs.declared.node.ParserRule.{ParserRule}

-- the view of an expression of code with a piece; `p` and `q` are the addresses of its boxes
abbrev pub view_at : Span → code.ParserExpr → Spanned
view_at t (is.Str s) = Leaf t (bare.Str (text_of s))
view_at t (is.Insens s) = Leaf t (bare.Insens (text_of s))
view_at t (is.Range s u) = Leaf t (bare.Range (text_of s) (text_of u))
view_at t (is.Ident s) = Leaf t (bare.Ident (text_of s))
view_at t (is.PeekSlice m n) = Leaf t (bare.PeekSlice m n)
view_at t (is.PosPred' p e s) = One t spanned.PosPred (view_at (piece_of s) e)
view_at t (is.NegPred' p e s) = One t spanned.NegPred (view_at (piece_of s) e)
view_at t (is.Seq' p e s q f u) = Two t spanned.Seq (view_at (piece_of s) e) (view_at (piece_of u) f)
view_at t (is.Choice' p e s q f u) = Two t spanned.Choice (view_at (piece_of s) e) (view_at (piece_of u) f)
view_at t (is.Opt' p e s) = One t spanned.Opt (view_at (piece_of s) e)
view_at t (is.Rep' p e s) = One t spanned.Rep (view_at (piece_of s) e)
view_at t (is.RepOnce' p e s) = One t spanned.RepOnce (view_at (piece_of s) e)
view_at t (is.RepExact' p e s n) = One t (spanned.RepExact n) (view_at (piece_of s) e)
view_at t (is.RepMin' p e s m) = One t (spanned.RepMin m) (view_at (piece_of s) e)
view_at t (is.RepMax' p e s n) = One t (spanned.RepMax n) (view_at (piece_of s) e)
view_at t (is.RepMinMax' p e s m n) = One t (spanned.RepMinMax m n) (view_at (piece_of s) e)
view_at t (is.Push' p e s) = One t spanned.Push (view_at (piece_of s) e)
view_at t (is.PushLiteral s) = Leaf t (bare.PushLiteral (text_of s))
view_at t (is.NodeTag' p e s u) = One t (spanned.Tag (text_of u)) (view_at (piece_of s) e)

-- a node of code
abbrev pub view : ParserNode → Spanned
view n = view_at (piece_of n.span) n.expr

-- an expression of code without a piece of its own, as one at the start of no text
abbrev pub unplaced : code.ParserExpr → Spanned
unplaced e = view_at (record { text = []; start = 0; end = 0 }) e

-- two expressions of code have the same view, at any piece
abbrev pub IsSameExpression : code.ParserExpr → code.ParserExpr → Type 0
IsSameExpression a b = (place : Span) → view_at place a ≡ view_at place b

-- a type of code
abbrev pub type_of : code_type.RuleType → bare.RuleType
type_of t = rule_type_of t

-- a rule of code
abbrev pub rule_view : ParserRule → SpannedRule
rule_view r =
    record { name = text_of r.name; span = piece_of r.span; type_of = type_of r.ty; body = view r.node }

-- the rules of code
abbrev pub rule_views : List ParserRule → List SpannedRule
rule_views rs = map rule_view rs
