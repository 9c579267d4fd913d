-- What the nodes of a table do.
use Rattle.std.proofs.Common.{sym, ◌≡◌, ℕ, List, slice_get, length, ◌∙◌, ap, arith, map}
use Rattle.std.specs.Option.{option_map}
use Rattle.std.proofs.lemmas.List.{length-map}
use Rattle.std.proofs.lemmas.Option.{slice_get-map}
use Rattle.front_spanned.specs.Nodes.{view_at, piece_of}
use Rattle.front_spanned.specs.declared.node.ParserExpr.{ParserExpr}
use Rattle.front_spanned.specs.declared.node.ParserExpr.TheVariants as code
use Rattle.front_spanned.specs.declared.node.ParserRule.{ParserRule}
use Rattle.base_ast.specs.Ast.{text_of}
use Rattle.base_language.specs.Language.Text.{Text}
use Rattle.front_spanned.specs.Spanned.{Span, span_of, Spanned, Leaf, One, Two}
use Rattle.front_spanned.proofs.Places.{span_at}
use Rattle.base_language.specs.Language.Expression as bare
use Rattle.base_language.specs.Language.Expression.{Expression}
use Rattle.front_analysis.specs.Shapes as shapes
use Rattle.front_analysis.specs.Roots.{IsTabled}
use Rattle.front_analysis.specs.declared.table.Node as plain_node
use Rattle.front_analysis.specs.declared.table.Table as plain_table
use Rattle.front_stack_loops.specs.Kinds.{AreTabled, IsNode, Fits, leaf_kind, kind_of_code, node_kind}
use Rattle.front_stack_loops.specs.declared.table.PassNode.{PassNode}
use Rattle.front_stack_loops.specs.declared.table.NodeKind.{NodeKind}

-- an expression of code that is one without operands does what that does
pub leaf_done : (kind_of : Text → NodeKind) (x : ParserExpr) (d : Expression) (t at : Span) → view_at t x ≡ Leaf at d → kind_of_code kind_of x ≡ leaf_kind kind_of d
leaf_done kind_of (code.Str s) d t at h = let e : bare.Str (text_of s) ≡ d = cc in ap (leaf_kind kind_of) e
leaf_done kind_of (code.Insens s) d t at h = let e : bare.Insens (text_of s) ≡ d = cc in ap (leaf_kind kind_of) e
leaf_done kind_of (code.Ident s) d t at h = let e : bare.Ident (text_of s) ≡ d = cc in ap (leaf_kind kind_of) e
leaf_done kind_of (code.Range s v) d t at h = let e : bare.Range (text_of s) (text_of v) ≡ d = cc in ap (leaf_kind kind_of) e
leaf_done kind_of (code.PeekSlice m n) d t at h = let e : bare.PeekSlice m n ≡ d = cc in ap (leaf_kind kind_of) e
leaf_done kind_of (code.PosPred' p e s) d t at h = cc
leaf_done kind_of (code.NegPred' p e s) d t at h = cc
leaf_done kind_of (code.Seq' p e s q f v) d t at h = cc
leaf_done kind_of (code.Choice' p e s q f v) d t at h = cc
leaf_done kind_of (code.Opt' p e s) d t at h = cc
leaf_done kind_of (code.Rep' p e s) d t at h = cc
leaf_done kind_of (code.RepOnce' p e s) d t at h = cc
leaf_done kind_of (code.RepExact' p e s n) d t at h = cc
leaf_done kind_of (code.RepMin' p e s m) d t at h = cc
leaf_done kind_of (code.RepMax' p e s n) d t at h = cc
leaf_done kind_of (code.RepMinMax' p e s m n) d t at h = cc
leaf_done kind_of (code.Push' p e s) d t at h = cc
leaf_done kind_of (code.PushLiteral s) d t at h = let e : bare.PushLiteral (text_of s) ≡ d = cc in ap (leaf_kind kind_of) e
leaf_done kind_of (code.NodeTag' p e s u) d t at h = cc

-- a node of the table, with what it does
abbrev pub node_of : (Text → NodeKind) → plain_node.Node → PassNode
node_of kind_of n = record {
  kind = node_kind kind_of n.expr.now n.shape;
  rule = n.rule;
  span = n.span;
}

fits_node : (kind_of : Text → NodeKind) (all : List Spanned) (i : ℕ) (n : plain_node.Node) (x : Spanned) → view_at (piece_of n.span.now) n.expr.now ≡ x → shapes.IsShape all i n.shape x → Fits kind_of all i (node_kind kind_of n.expr.now n.shape) x
fits_node kind_of all i n (Leaf s e) said (simple, shape) = (simple, ap (node_kind kind_of n.expr.now) shape ∙ leaf_done kind_of n.expr.now e (piece_of n.span.now) s said)
fits_node kind_of all i n (One s f x) said (j, next, at, shape) = (j, omega arith, at, ap (node_kind kind_of n.expr.now) shape)
fits_node kind_of all i n (Two s f x y) said (j, l, between, next, at, at_2, shape) = (j, l, omega arith, omega arith, at, at_2, ap (node_kind kind_of n.expr.now) shape)

is_node : (kind_of : Text → NodeKind) (all : List Spanned) (i : ℕ) (n : plain_node.Node) (x : Spanned) → shapes.IsNode all i n x → IsNode kind_of all i (node_of kind_of n) x
is_node kind_of all i n x h = record {
  fits = fits_node kind_of all i n x h.said h.shape;
  place = sym (span_at (piece_of n.span.now) n.expr.now) ∙ ap span_of h.said;
}

-- the table of rules, with what its nodes do
pub with_kinds : (rules : List ParserRule) (kind_of : Text → NodeKind) (t : plain_table.Table) (ns : List PassNode) → IsTabled rules t → ns ≡ map (node_of kind_of) t.nodes.items → AreTabled rules kind_of ns t.roots.items
with_kinds rules kind_of t ns h e = record {
  nodes = record {
    alike = ap (λ z. length z) e ∙ (length-map t.nodes.items (node_of kind_of) ∙ h.numbered.nodes.alike);
    fit = λ i x g. let (n, at, is) = h.numbered.nodes.fit i x g in (
      node_of kind_of n,
      ap (λ z. slice_get z i) e ∙ (slice_get-map (node_of kind_of) t.nodes.items i ∙ ap (option_map (node_of kind_of)) at),
      is_node kind_of _ i n x is,
    );
  };
  roots = h.roots;
}
