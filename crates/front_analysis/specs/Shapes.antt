-- The shapes of expressions of code, and of nodes in the node table.
use Rattle.std.specs.Prelude.{◌≡◌, ℕ, suc, ◌+◌, List, length, Some, slice_get}
use Rattle.base_language.specs.Language.Expression.{Expression}
use Rattle.front_spanned.specs.Nodes.{view, view_at, piece_of}
use Rattle.front_spanned.specs.Spanned as spanned
use Rattle.front_spanned.specs.Spanned.{Span, Spanned, Leaf, One, Two, Unary, Binary}
use Rattle.front_spanned.specs.declared.node.ParserExpr.{ParserExpr}
use Rattle.front_analysis.specs.Nodes.{size, IsSimple}
use Rattle.front_analysis.specs.declared.shapes.UnaryOperator.{UnaryOperator}
use Rattle.front_analysis.specs.declared.shapes.UnaryOperator.TheVariants as signs
use Rattle.front_analysis.specs.declared.shapes.Joint.{Joint}
use Rattle.front_analysis.specs.declared.shapes.Joint.TheVariants as joints
use Rattle.front_analysis.specs.declared.shapes.Shape.{Shape}
use Rattle.front_analysis.specs.declared.shapes.Shape.TheVariants as is
use Rattle.front_analysis.specs.declared.shapes.Operands.{Operands}
use Rattle.front_analysis.specs.declared.shapes.Operands.TheVariants as has
use Rattle.front_analysis.specs.declared.table.Node.{Node}

-- the operator round one operand, of code
abbrev pub sign_of : Unary → UnaryOperator
sign_of spanned.PosPred = signs.PosPred
sign_of spanned.NegPred = signs.NegPred
sign_of spanned.Opt = signs.Opt
sign_of spanned.Rep = signs.Rep
sign_of spanned.RepOnce = signs.RepOnce
sign_of (spanned.RepExact n) = signs.RepExact n
sign_of (spanned.RepMin n) = signs.RepMin n
sign_of (spanned.RepMax n) = signs.RepMax n
sign_of (spanned.RepMinMax m n) = signs.RepMinMax m n
sign_of spanned.Push = signs.Push
sign_of (spanned.Tag t) = signs.NodeTag

-- the operator between two operands, of code
abbrev pub joint_of : Binary → Joint
joint_of spanned.Seq = joints.Sequence
joint_of spanned.Choice = joints.Choice

-- an expression has this operator and these operands, whatever its span
abbrev pub IsMadeOf : ParserExpr → Operands → Type 0
IsMadeOf expr has.Nothing = (e : Expression) × IsSimple e × ((t : Span) → view_at t expr ≡ Leaf t e)
IsMadeOf expr (has.Inside sign body) =
    (f : Unary) × ((t : Span) → view_at t expr ≡ One t f (view body.now)) × (sign ≡ sign_of f)
IsMadeOf expr (has.Both joint first second) =
    (f : Binary) × ((t : Span) → view_at t expr ≡ Two t f (view first.now) (view second.now))
    × (joint ≡ joint_of f)

-- the shape of a node at an index, by the indices of those inside it, which are right before it
abbrev pub IsShape : List Spanned → ℕ → Shape → Spanned → Type 0
IsShape nodes i shape (Leaf s e) = IsSimple e × (shape ≡ is.Leaf)
IsShape nodes i shape (One s f x) =
    (j : ℕ) × (suc j ≡ i) × (slice_get nodes j ≡ Some x) × (shape ≡ is.One (sign_of f) j)
IsShape nodes i shape (Two s f x y) =
    (j : ℕ) × (l : ℕ) × (j + size y ≡ l) × (suc l ≡ i) × (slice_get nodes j ≡ Some x)
    × (slice_get nodes l ≡ Some y) × (shape ≡ is.Two (joint_of f) j l)

-- a node of code describes a node at an index
pub record IsNode (nodes : List Spanned) (i : ℕ) (n : Node) (x : Spanned) : Type 0 where
  pub said : view_at (piece_of n.span.now) n.expr.now ≡ x
  pub shape : IsShape nodes i n.shape x
  pub start : n.start + size x ≡ i + 1

-- the list describes all these nodes
pub record AreNodes (nodes : List Spanned) (ns : List Node) : Type 0 where
  pub alike : length ns ≡ length nodes
  pub fit : (i : ℕ) (x : Spanned) → slice_get nodes i ≡ Some x → (n : Node) × (slice_get ns i ≡ Some n)
      × IsNode nodes i n x
