-- The kinds of the nodes of bodies, in the order of the node table.
use Rattle.std.specs.Prelude.{◌≡◌, ℕ, suc, ◌+◌, ◌<◌, List, [], ◌∷◌, length, Some, if◌then◌else◌, slice_get, nat_eq}
use Rattle.base_language.specs.Language.Text.{Text}
use Rattle.base_language.specs.Language.Expression as bare
use Rattle.base_language.specs.Language.Expression.{Expression}
use Rattle.front_spanned.specs.Spanned.{Spanned, Leaf, One, Two, Unary}
use Rattle.front_spanned.specs.declared.node.ParserExpr.{ParserExpr}
use Rattle.front_spanned.specs.declared.node.ParserExpr.TheVariants as code
use Rattle.base_ast.specs.Ast.{text_of}
use Rattle.front_analysis.specs.Nodes.{size, IsSimple}
use Rattle.front_analysis.specs.Shapes.{sign_of, joint_of}
use Rattle.front_analysis.specs.declared.shapes.UnaryOperator.{UnaryOperator}
use Rattle.front_analysis.specs.declared.shapes.UnaryOperator.TheVariants as signs
use Rattle.front_analysis.specs.declared.shapes.Joint.{Joint}
use Rattle.front_analysis.specs.declared.shapes.Joint.TheVariants as joints
use Rattle.front_analysis.specs.declared.shapes.Shape.{Shape}
use Rattle.front_analysis.specs.declared.shapes.Shape.TheVariants as shapes
use Rattle.front_analysis.specs.declared.kind_table.NodeKind.{NodeKind}
use Rattle.front_analysis.specs.declared.kind_table.NodeKind.TheVariants as is
use Rattle.front_analysis.specs.declared.kinds.Wrap.{Wrap}
use Rattle.front_analysis.specs.declared.kinds.Wrap.TheVariants as wraps

abbrev pub text_kind : Text → NodeKind
text_kind [] = is.Still
text_kind (c ∷ t) = is.Taking

-- the kind of an expression without operands, given the kinds of names
abbrev pub leaf_kind : (Text → NodeKind) → Expression → NodeKind
leaf_kind kind_of (bare.Str t) = text_kind t
leaf_kind kind_of (bare.Insens t) = text_kind t
leaf_kind kind_of (bare.Ident n) = kind_of n
leaf_kind kind_of (bare.PushLiteral t) = is.Still
leaf_kind kind_of _ = is.Taking

-- the kind of an expression of code without operands
abbrev pub kind_of_code : (Text → NodeKind) → ParserExpr → NodeKind
kind_of_code kind_of (code.Str s) = text_kind (text_of s)
kind_of_code kind_of (code.Insens s) = text_kind (text_of s)
kind_of_code kind_of (code.Ident s) = kind_of (text_of s)
kind_of_code kind_of (code.PushLiteral s) = is.Still
kind_of_code kind_of _ = is.Taking

abbrev pub counted : ℕ → Wrap
counted n = if nat_eq n 0 then wraps.Free else wraps.Inside

abbrev pub repeated : ℕ → Wrap
repeated n = if nat_eq n 0 then wraps.Again else wraps.OnceAgain

abbrev pub sign_wrap : UnaryOperator → Wrap
sign_wrap signs.PosPred = wraps.Ahead
sign_wrap signs.NegPred = wraps.NotAhead
sign_wrap signs.Opt = wraps.Free
sign_wrap signs.Push = wraps.Inside
sign_wrap signs.NodeTag = wraps.Inside
sign_wrap signs.Rep = wraps.Again
sign_wrap signs.RepOnce = wraps.OnceAgain
sign_wrap (signs.RepExact n) = counted n
sign_wrap (signs.RepMin n) = repeated n
sign_wrap (signs.RepMax n) = wraps.Free
sign_wrap (signs.RepMinMax m n) = counted m

abbrev pub wrap_of : Unary → Wrap
wrap_of f = sign_wrap (sign_of f)

abbrev pub wrap_kind : Wrap → ℕ → NodeKind
wrap_kind wraps.Ahead j = is.Ahead j
wrap_kind wraps.NotAhead j = is.NotAhead j
wrap_kind wraps.Free j = is.Free j
wrap_kind wraps.Inside j = is.Inside j
wrap_kind wraps.Again j = is.Again j
wrap_kind wraps.OnceAgain j = is.OnceAgain j

abbrev pub both_kind : Joint → ℕ → ℕ → NodeKind
both_kind joints.Sequence j k = is.Seq j k
both_kind joints.Choice j k = is.Choice j k

-- the kind of an expression of this shape
abbrev pub node_kind : (Text → NodeKind) → ParserExpr → Shape → NodeKind
node_kind kind_of e shapes.Leaf = kind_of_code kind_of e
node_kind kind_of e (shapes.One sign j) = wrap_kind (sign_wrap sign) j
node_kind kind_of e (shapes.Two joint j k) = both_kind joint j k

-- a node of a list describes an expression; the nodes inside it have lower numbers
abbrev pub RepresentsNode : (Text → NodeKind) → List NodeKind → ℕ → Spanned → Type 0
RepresentsNode kind_of ks i (Leaf s e) = IsSimple e × (slice_get ks i ≡ Some (leaf_kind kind_of e))
RepresentsNode kind_of ks i (One s f x) = (j : ℕ) × (j < i)
    × (slice_get ks i ≡ Some (wrap_kind (wrap_of f) j)) × RepresentsNode kind_of ks j x
RepresentsNode kind_of ks i (Two s f x y) = (j : ℕ) × (k : ℕ) × (j < i) × (k < i)
    × (slice_get ks i ≡ Some (both_kind (joint_of f) j k))
    × RepresentsNode kind_of ks j x × RepresentsNode kind_of ks k y

-- a node of a list describes an expression without spans
abbrev pub Represents : (Text → NodeKind) → List NodeKind → ℕ → Expression → Type 0
Represents kind_of ks i (bare.Str t) = slice_get ks i ≡ Some (text_kind t)
Represents kind_of ks i (bare.Insens t) = slice_get ks i ≡ Some (text_kind t)
Represents kind_of ks i (bare.Range t u) = slice_get ks i ≡ Some is.Taking
Represents kind_of ks i (bare.Ident n) = slice_get ks i ≡ Some (kind_of n)
Represents kind_of ks i (bare.PeekSlice a b) = slice_get ks i ≡ Some is.Taking
Represents kind_of ks i (bare.PushLiteral t) = slice_get ks i ≡ Some is.Still
Represents kind_of ks i (bare.PosPred e) = (j : ℕ) × (j < i) × (slice_get ks i ≡ Some (is.Ahead j))
    × Represents kind_of ks j e
Represents kind_of ks i (bare.NegPred e) = (j : ℕ) × (j < i) × (slice_get ks i ≡ Some (is.NotAhead j))
    × Represents kind_of ks j e
Represents kind_of ks i (bare.Opt e) = (j : ℕ) × (j < i) × (slice_get ks i ≡ Some (is.Free j))
    × Represents kind_of ks j e
Represents kind_of ks i (bare.Rep e) = (j : ℕ) × (j < i) × (slice_get ks i ≡ Some (is.Again j))
    × Represents kind_of ks j e
Represents kind_of ks i (bare.RepMax e n) = (j : ℕ) × (j < i) × (slice_get ks i ≡ Some (is.Free j))
    × Represents kind_of ks j e
Represents kind_of ks i (bare.RepOnce e) = (j : ℕ) × (j < i) × (slice_get ks i ≡ Some (is.OnceAgain j))
    × Represents kind_of ks j e
Represents kind_of ks i (bare.Push e) = (j : ℕ) × (j < i) × (slice_get ks i ≡ Some (is.Inside j))
    × Represents kind_of ks j e
Represents kind_of ks i (bare.NodeTag e t) = (j : ℕ) × (j < i) × (slice_get ks i ≡ Some (is.Inside j))
    × Represents kind_of ks j e
Represents kind_of ks i (bare.RepExact e n) = (j : ℕ) × (j < i)
    × (slice_get ks i ≡ Some (wrap_kind (counted n) j)) × Represents kind_of ks j e
Represents kind_of ks i (bare.RepMin e n) = (j : ℕ) × (j < i)
    × (slice_get ks i ≡ Some (wrap_kind (repeated n) j)) × Represents kind_of ks j e
Represents kind_of ks i (bare.RepMinMax e m n) = (j : ℕ) × (j < i)
    × (slice_get ks i ≡ Some (wrap_kind (counted m) j)) × Represents kind_of ks j e
Represents kind_of ks i (bare.Seq a b) = (j : ℕ) × (k : ℕ) × (j < i) × (k < i)
    × (slice_get ks i ≡ Some (is.Seq j k)) × Represents kind_of ks j a × Represents kind_of ks k b
Represents kind_of ks i (bare.Choice a b) = (j : ℕ) × (k : ℕ) × (j < i) × (k < i)
    × (slice_get ks i ≡ Some (is.Choice j k)) × Represents kind_of ks j a × Represents kind_of ks k b
Represents kind_of ks i (bare.Skip ts) = ⊥
Represents kind_of ks i (bare.RestoreOnErr e) = ⊥

-- the kind of a node at an index, given the indices of those inside it
abbrev pub Fits : (Text → NodeKind) → List Spanned → ℕ → NodeKind → Spanned → Type 0
Fits kind_of nodes i k (Leaf s e) = IsSimple e × (k ≡ leaf_kind kind_of e)
Fits kind_of nodes i k (One s f x) = (j : ℕ) × (j < i) × (slice_get nodes j ≡ Some x)
    × (k ≡ wrap_kind (wrap_of f) j) × (suc j ≡ i)
Fits kind_of nodes i k (Two s f x y) =
    (j : ℕ) × (l : ℕ) × (j < i) × (l < i) × (slice_get nodes j ≡ Some x) × (slice_get nodes l ≡ Some y)
    × (k ≡ both_kind (joint_of f) j l) × (suc l ≡ i) × (j + size y ≡ l)

-- the list has the kinds of all these nodes
pub record AreNodes (kind_of : Text → NodeKind) (nodes : List Spanned) (ks : List NodeKind) : Type 0 where
  pub alike : length ks ≡ length nodes
  pub fit : (i : ℕ) (x : Spanned) → slice_get nodes i ≡ Some x → (k : NodeKind) × (slice_get ks i ≡ Some k)
      × Fits kind_of nodes i k x
