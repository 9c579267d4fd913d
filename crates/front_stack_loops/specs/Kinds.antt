-- The kinds of the nodes of all bodies, in postorder.
use Rattle.std.specs.Prelude.{◌≡◌, ℕ, zero, ◌-◌, ◌<◌, min, List, [], ◌∷◌, length, Option, Some, None, Bool, true, false, slice_get, ℤ, pos}
use Rattle.base_language.specs.Language.Text.{Text}
use Rattle.base_language.specs.Language.Expression as bare
use Rattle.base_language.specs.Language.Expression.{Expression}
use Rattle.front_spanned.specs.Nodes.{piece_of}
use Rattle.front_spanned.specs.Spanned.{Spanned, Leaf, One, Two, span_of}
use Rattle.front_spanned.specs.declared.node.ParserExpr.{ParserExpr}
use Rattle.front_spanned.specs.declared.node.ParserExpr.TheVariants as code
use Rattle.front_spanned.specs.declared.node.ParserRule.{ParserRule}
use Rattle.base_ast.specs.Ast.{text_of}
use Rattle.front_analysis.specs.Nodes.{all_nodes, IsSimple}
use Rattle.front_analysis.specs.Roots.{AreRoots}
use Rattle.front_analysis.specs.Shapes.{sign_of, joint_of}
use Rattle.front_analysis.specs.declared.shapes.UnaryOperator.{UnaryOperator}
use Rattle.front_analysis.specs.declared.shapes.UnaryOperator.TheVariants as signs
use Rattle.front_analysis.specs.declared.shapes.Joint.{Joint}
use Rattle.front_analysis.specs.declared.shapes.Joint.TheVariants as joints
use Rattle.front_analysis.specs.declared.shapes.Shape.{Shape}
use Rattle.front_analysis.specs.declared.shapes.Shape.TheVariants as shapes
use Rattle.front_stack_loops.specs.declared.table.NodeKind.{NodeKind}
use Rattle.front_stack_loops.specs.declared.table.NodeKind.TheVariants as is
use Rattle.front_stack_loops.specs.declared.table.PassNode.{PassNode}

abbrev pub is_empty_text : Text → Bool
is_empty_text [] = true
is_empty_text (c ∷ t) = false

abbrev pub text_kind : Text → NodeKind
text_kind [] = is.Still
text_kind (c ∷ t) = is.Leaf

abbrev pub slice_kind : ℤ → Option ℤ → NodeKind
slice_kind (pos zero) None = is.PeekAll
slice_kind (pos zero) (Some (pos zero)) = is.Still
slice_kind _ _ = is.Leaf

-- the kind of an expression without operands, by those of names
abbrev pub leaf_kind : (Text → NodeKind) → Expression → NodeKind
leaf_kind kind_of (bare.Str t) = text_kind t
leaf_kind kind_of (bare.Insens t) = text_kind t
leaf_kind kind_of (bare.Ident n) = kind_of n
leaf_kind kind_of (bare.PeekSlice i j) = slice_kind i j
leaf_kind kind_of (bare.PushLiteral t) = is.PushLiteral (is_empty_text t)
leaf_kind kind_of _ = is.Leaf

-- the kind of an expression of code without operands
abbrev pub kind_of_code : (Text → NodeKind) → ParserExpr → NodeKind
kind_of_code kind_of (code.Str s) = text_kind (text_of s)
kind_of_code kind_of (code.Insens s) = text_kind (text_of s)
kind_of_code kind_of (code.Ident s) = kind_of (text_of s)
kind_of_code kind_of (code.PeekSlice i j) = slice_kind i j
kind_of_code kind_of (code.PushLiteral s) = is.PushLiteral (is_empty_text (text_of s))
kind_of_code kind_of _ = is.Leaf

abbrev pub wrap_kind : UnaryOperator → ℕ → NodeKind
wrap_kind signs.PosPred j = is.PosPred j
wrap_kind signs.NegPred j = is.NegPred j
wrap_kind signs.Opt j = is.Opt j
wrap_kind signs.Push j = is.Push j
wrap_kind signs.NodeTag j = is.Tag j
wrap_kind signs.Rep j = is.Repeat j 0 0 true
wrap_kind signs.RepOnce j = is.Repeat j 1 0 true
wrap_kind (signs.RepExact n) j = is.Repeat j n 0 false
wrap_kind (signs.RepMin n) j = is.Repeat j n 0 true
wrap_kind (signs.RepMax n) j = is.Repeat j 0 n false
wrap_kind (signs.RepMinMax m n) j = is.Repeat j (min m n) (n - m) false

abbrev pub both_kind : Joint → ℕ → ℕ → NodeKind
both_kind joints.Sequence j k = is.Seq j k
both_kind joints.Choice j k = is.Choice j k

-- the kind of an expression of this shape
abbrev pub node_kind : (Text → NodeKind) → ParserExpr → Shape → NodeKind
node_kind kind_of e shapes.Leaf = kind_of_code kind_of e
node_kind kind_of e (shapes.One sign j) = wrap_kind sign j
node_kind kind_of e (shapes.Two joint j k) = both_kind joint j k

-- k is the kind of the node x with index i, by the indices of its operands
abbrev pub Fits : (Text → NodeKind) → List Spanned → ℕ → NodeKind → Spanned → Type 0
Fits kind_of nodes i k (Leaf s e) = IsSimple e × (k ≡ leaf_kind kind_of e)
Fits kind_of nodes i k (One s f x) = (j : ℕ) × (j < i) × (slice_get nodes j ≡ Some x)
    × (k ≡ wrap_kind (sign_of f) j)
Fits kind_of nodes i k (Two s f x y) =
    (j : ℕ) × (l : ℕ) × (j < i) × (l < i) × (slice_get nodes j ≡ Some x) × (slice_get nodes l ≡ Some y)
    × (k ≡ both_kind (joint_of f) j l)

-- the node n of code represents the node x with index i
pub record IsNode (kind_of : Text → NodeKind) (nodes : List Spanned) (i : ℕ) (n : PassNode)
    (x : Spanned) : Type 0 where
  pub fits : Fits kind_of nodes i n.kind x
  pub place : piece_of n.span.now ≡ span_of x

-- the list has the kind of every node
pub record AreNodes (kind_of : Text → NodeKind) (nodes : List Spanned) (ns : List PassNode) : Type 0 where
  pub alike : length ns ≡ length nodes
  pub fit : (i : ℕ) (x : Spanned) → slice_get nodes i ≡ Some x → (n : PassNode) × (slice_get ns i ≡ Some n)
      × IsNode kind_of nodes i n x

-- the nodes of all bodies, and the indices of the bodies' roots
pub record AreTabled (rules : List ParserRule) (kind_of : Text → NodeKind) (ns : List PassNode)
    (places : List ℕ) : Type 0 where
  pub nodes : AreNodes kind_of (all_nodes rules) ns
  pub roots : AreRoots rules (all_nodes rules) places
