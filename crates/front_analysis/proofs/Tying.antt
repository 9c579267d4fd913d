-- What the nodes of a table do, and what stands among them.
use Rattle.std.proofs.Common.{map, ◌≡◌, ℕ, List, slice_get, Some, length, ◌∙◌, ap, arith}
use Rattle.std.specs.Option.{option_map}
use Rattle.std.proofs.lemmas.List.{length-map}
use Rattle.std.proofs.lemmas.Option.{slice_get-map}
use Rattle.front_spanned.specs.Nodes.{view_at, piece_of}
use Rattle.front_spanned.specs.declared.node.ParserExpr.{ParserExpr}
use Rattle.front_spanned.specs.declared.node.ParserExpr.TheVariants as code
use Rattle.base_ast.specs.Ast.{text_of}
use Rattle.base_language.specs.Language.Text.{Text}
use Rattle.front_spanned.specs.Spanned.{Span, Spanned, Leaf, One, Two, PosPred, NegPred, Opt, Rep, RepOnce, RepExact, RepMin, RepMax, RepMinMax, Push, Tag, Seq, Choice}
use Rattle.base_language.specs.Language.Expression as bare
use Rattle.base_language.specs.Language.Expression.{Expression}
use Rattle.front_spanned.specs.Erasure.{without_spans}
use Rattle.front_analysis.specs.Nodes.{IsSimple}
use Rattle.front_analysis.specs.Shapes as shapes
use Rattle.front_analysis.specs.declared.table.Node.{Node}
use Rattle.front_analysis.specs.Kinds.{AreNodes, Fits, RepresentsNode, Represents, leaf_kind, kind_of_code, node_kind}
use Rattle.front_analysis.specs.declared.kind_table.NodeKind.{NodeKind}

-- what lies among the nodes of a list stands there
pub stands_at : (kind_of : Text → NodeKind) (nodes : List Spanned) (ks : List NodeKind) → AreNodes kind_of nodes ks → (x : Spanned) (i : ℕ) → slice_get nodes i ≡ Some x → RepresentsNode kind_of ks i x
stands_at kind_of nodes ks h (Leaf s e) i g = let (k, at, fit) = h.fit i _ g in (fit.0, at ∙ ap Some fit.1)
stands_at kind_of nodes ks h (One s f x) i g = let (k, at, fit) = h.fit i _ g in (fit.0, fit.1, at ∙ ap Some fit.3, stands_at kind_of nodes ks h x fit.0 fit.2)
stands_at kind_of nodes ks h (Two s f x y) i g = let (k, at, fit) = h.fit i _ g in (fit.0, fit.1, fit.2, fit.3, at ∙ ap Some fit.6, stands_at kind_of nodes ks h x fit.0 fit.4, stands_at kind_of nodes ks h y fit.1 fit.5)

simple_says : (kind_of : Text → NodeKind) (ks : List NodeKind) (i : ℕ) (e : Expression) → IsSimple e → slice_get ks i ≡ Some (leaf_kind kind_of e) → Represents kind_of ks i e
simple_says kind_of ks i (bare.Str t) l h = h
simple_says kind_of ks i (bare.Insens t) l h = h
simple_says kind_of ks i (bare.Range t u) l h = h
simple_says kind_of ks i (bare.Ident n) l h = h
simple_says kind_of ks i (bare.PeekSlice a b) l h = h
simple_says kind_of ks i (bare.PushLiteral t) l h = h
simple_says kind_of ks i _ l h = absurd l

pub says : (kind_of : Text → NodeKind) (ks : List NodeKind) (i : ℕ) (x : Spanned) → RepresentsNode kind_of ks i x → Represents kind_of ks i (without_spans x)
says kind_of ks i (Leaf s e) h = simple_says kind_of ks i e h.0 h.1
says kind_of ks i (One s PosPred x) h = (h.0, h.1, h.2, says kind_of ks h.0 x h.3)
says kind_of ks i (One s NegPred x) h = (h.0, h.1, h.2, says kind_of ks h.0 x h.3)
says kind_of ks i (One s Opt x) h = (h.0, h.1, h.2, says kind_of ks h.0 x h.3)
says kind_of ks i (One s Rep x) h = (h.0, h.1, h.2, says kind_of ks h.0 x h.3)
says kind_of ks i (One s RepOnce x) h = (h.0, h.1, h.2, says kind_of ks h.0 x h.3)
says kind_of ks i (One s Push x) h = (h.0, h.1, h.2, says kind_of ks h.0 x h.3)
says kind_of ks i (One s (Tag t) x) h = (h.0, h.1, h.2, says kind_of ks h.0 x h.3)
says kind_of ks i (One s (RepExact n) x) h = (h.0, h.1, h.2, says kind_of ks h.0 x h.3)
says kind_of ks i (One s (RepMin n) x) h = (h.0, h.1, h.2, says kind_of ks h.0 x h.3)
says kind_of ks i (One s (RepMax n) x) h = (h.0, h.1, h.2, says kind_of ks h.0 x h.3)
says kind_of ks i (One s (RepMinMax m n) x) h = (h.0, h.1, h.2, says kind_of ks h.0 x h.3)
says kind_of ks i (Two s Seq x y) h = (h.0, h.1, h.2, h.3, h.4, says kind_of ks h.0 x h.5, says kind_of ks h.1 y h.6)
says kind_of ks i (Two s Choice x y) h = (h.0, h.1, h.2, h.3, h.4, says kind_of ks h.0 x h.5, says kind_of ks h.1 y h.6)

-- an expression of code that is one without operands does what that does
pub leaf_done : (kind_of : Text → NodeKind) (x : ParserExpr) (d : Expression) (t at : Span) → view_at t x ≡ Leaf at d → kind_of_code kind_of x ≡ leaf_kind kind_of d
leaf_done kind_of (code.Str s) d t at h = let e : bare.Str (text_of s) ≡ d = cc in ap (leaf_kind kind_of) e
leaf_done kind_of (code.Insens s) d t at h = let e : bare.Insens (text_of s) ≡ d = cc in ap (leaf_kind kind_of) e
leaf_done kind_of (code.Ident s) d t at h = let e : bare.Ident (text_of s) ≡ d = cc in ap (leaf_kind kind_of) e
leaf_done kind_of (code.Range s v) d t at h = let e : bare.Range (text_of s) (text_of v) ≡ d = cc in ap (leaf_kind kind_of) e
leaf_done kind_of (code.PeekSlice m n) d t at h = let e : bare.PeekSlice m n ≡ d = cc in ap (leaf_kind kind_of) e
leaf_done kind_of (code.PosPred' p e s) d t at h = cc
leaf_done kind_of (code.NegPred' p e s) d t at h = cc
leaf_done kind_of (code.Seq' p e s q f v) d t at h = cc
leaf_done kind_of (code.Choice' p e s q f v) d t at h = cc
leaf_done kind_of (code.Opt' p e s) d t at h = cc
leaf_done kind_of (code.Rep' p e s) d t at h = cc
leaf_done kind_of (code.RepOnce' p e s) d t at h = cc
leaf_done kind_of (code.RepExact' p e s n) d t at h = cc
leaf_done kind_of (code.RepMin' p e s m) d t at h = cc
leaf_done kind_of (code.RepMax' p e s n) d t at h = cc
leaf_done kind_of (code.RepMinMax' p e s m n) d t at h = cc
leaf_done kind_of (code.Push' p e s) d t at h = cc
leaf_done kind_of (code.PushLiteral s) d t at h = let e : bare.PushLiteral (text_of s) ≡ d = cc in ap (leaf_kind kind_of) e
leaf_done kind_of (code.NodeTag' p e s u) d t at h = cc

fits_node : (kind_of : Text → NodeKind) (all : List Spanned) (i : ℕ) (n : Node) (x : Spanned) → view_at (piece_of n.span.now) n.expr.now ≡ x → shapes.IsShape all i n.shape x → Fits kind_of all i (node_kind kind_of n.expr.now n.shape) x
fits_node kind_of all i n (Leaf s e) said (simple, shape) = (simple, ap (node_kind kind_of n.expr.now) shape ∙ leaf_done kind_of n.expr.now e (piece_of n.span.now) s said)
fits_node kind_of all i n (One s f x) said (j, next, at, shape) = (j, omega arith, at, ap (node_kind kind_of n.expr.now) shape, next)
fits_node kind_of all i n (Two s f x y) said (j, l, between, next, at, at_2, shape) = (j, l, omega arith, omega arith, at, at_2, ap (node_kind kind_of n.expr.now) shape, next, between)

-- what a node of a table does
abbrev pub kind_at : (Text → NodeKind) → Node → NodeKind
kind_at kind_of n = node_kind kind_of n.expr.now n.shape

-- what the nodes of a table do
pub with_kinds : (kind_of : Text → NodeKind) (all : List Spanned) (ns : List Node) (ks : List NodeKind) → shapes.AreNodes all ns → ks ≡ map (kind_at kind_of) ns → AreNodes kind_of all ks
with_kinds kind_of all ns ks h e = record {
  alike = ap (λ z. length z) e ∙ (length-map ns (kind_at kind_of) ∙ h.alike);
  fit = λ i x g. let (n, at, is) = h.fit i x g in (
    kind_at kind_of n,
    ap (λ z. slice_get z i) e ∙ (slice_get-map (kind_at kind_of) ns i ∙ ap (option_map (kind_at kind_of)) at),
    fits_node kind_of all i n x is.said is.shape,
  );
}
