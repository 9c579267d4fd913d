-- What diagrams show of expressions: texts, and links to rules.
use Rattle.std.specs.Prelude.{ℕ, List, [], ◌∷◌, ◌++◌, ◌==◌, Bool, Option, Some, None, codes, if◌then◌else◌, length, string_bytes}
use Rattle.std.specs.List.{flat_map}
use Rattle.std.specs.Fmt.{decimal}
use Rattle.base_ast.specs.Ast.{expression_of}
use Rattle.base_ast.specs.declared.ast.Expr.{Expr, Str, Insens, Range, Ident, PeekSlice, PosPred', NegPred', Seq', Choice', Opt', Rep', RepOnce', RepExact', RepMin', RepMax', RepMinMax', Skip, Push', PushLiteral, NodeTag'}
use Rattle.doc_markup.specs.declared.tokens.Markup.{Markup}
use Rattle.doc_markup.specs.declared.tokens.Markup.TheVariants as token
use Rattle.doc_diagram.specs.Labels.{leaf_label, shortened}
use Rattle.doc_diagram.specs.declared.boxes.BoxContent.{BoxContent}
use Rattle.doc_diagram.specs.declared.boxes.BoxContent.TheVariants as content
use Rattle.doc_diagram.specs.declared.boxes.LayoutBox.{LayoutBox}
use Rattle.doc_diagram.specs.declared.drawing.DiagramStyle.{DiagramStyle}
use Rattle.doc_diagram.specs.declared.drawing.DiagramStyle.TheVariants as style

-- a text, the name of the rule of a number, the start of a link to it, or the style of diagrams
pub data Mark : Type 0 where
  Styles : Mark
  Shows : List ℕ → Mark
  Names : ℕ → Mark
  LinksTo : ℕ → Mark

-- what a token shows
abbrev pub token_marks : Markup → List Mark
token_marks (token.Label t) = Shows (string_bytes t) ∷ []
token_marks (token.Text t) = Shows t.now ∷ []
token_marks (token.RuleName r) = Names r ∷ []
token_marks (token.Link r) = LinksTo r ∷ []
token_marks token.Style = Styles ∷ []
token_marks _ = []

-- what tokens show, one after another
abbrev pub marks_of : List Markup → List Mark
marks_of = flat_map token_marks

-- a diagram's own style
abbrev pub style_marks : DiagramStyle → List Mark
style_marks style.OfPage = []
style_marks style.Own = Styles ∷ []

-- a text, unless it is empty
abbrev pub text_marks : List ℕ → List Mark
text_marks text = if length text == 0 then [] else Shows text ∷ []

-- a link to a rule, if there is one
abbrev pub link_marks : Option ℕ → List Mark
link_marks None = []
link_marks (Some r) = LinksTo r ∷ []

-- a box with its text
abbrev pub content_marks : BoxContent → List ℕ → List Mark
content_marks content.Rail text = []
content_marks content.Terminal text = text_marks text
content_marks (content.RuleCall r) text = LinksTo r ∷ text_marks text
content_marks content.Builtin text = text_marks text
content_marks content.Sequence text = []
content_marks content.Choice text = []
content_marks content.Columns text = []
content_marks content.Loop text = text_marks text
content_marks content.Group text = text_marks text

abbrev pub box_marks : LayoutBox → List Mark
box_marks b = content_marks b.content (string_bytes b.label)

-- how often something is repeated that is repeated at least so often
abbrev pub at_least : ℕ → List ℕ
at_least m = if m == 0 then [] else decimal m ++ codes " times or more"

abbrev pub at_most : ℕ → List ℕ
at_most n = codes "up to " ++ decimal n ++ codes " times"

abbrev pub between : ℕ → ℕ → List ℕ
between m n = if m == 0 then at_most n else decimal m ++ codes " to " ++ decimal n ++ codes " times"

module _ (number_of : List ℕ → Option ℕ) where
  -- what a diagram shows, if rules have numbers by their names: each operand, and then what frames it
  abbrev pub diagram_marks : Expr → List Mark
  diagram_marks (Str s) = text_marks (leaf_label (expression_of (Str s)))
  diagram_marks (Insens s) = text_marks (leaf_label (expression_of (Insens s)))
  diagram_marks (Range s t) = text_marks (leaf_label (expression_of (Range s t)))
  diagram_marks (Ident s) =
      link_marks (number_of (string_bytes s)) ++ text_marks (leaf_label (expression_of (Ident s)))
  diagram_marks (PeekSlice i j) = text_marks (leaf_label (expression_of (PeekSlice i j)))
  diagram_marks (PosPred' p x) = diagram_marks x ++ text_marks (codes "followed by")
  diagram_marks (NegPred' p x) = diagram_marks x ++ text_marks (codes "not followed by")
  diagram_marks (Seq' p x q y) = diagram_marks x ++ diagram_marks y
  diagram_marks (Choice' p x q y) = diagram_marks x ++ diagram_marks y
  diagram_marks (Opt' p x) = diagram_marks x
  diagram_marks (Rep' p x) = diagram_marks x
  diagram_marks (RepOnce' p x) = diagram_marks x
  diagram_marks (RepExact' p x n) = diagram_marks x ++ text_marks (decimal n ++ codes " times")
  diagram_marks (RepMin' p x m) = diagram_marks x ++ text_marks (at_least m)
  diagram_marks (RepMax' p x n) = diagram_marks x ++ text_marks (at_most n)
  diagram_marks (RepMinMax' p x m n) = diagram_marks x ++ text_marks (between m n)
  diagram_marks (Skip ss) = text_marks (leaf_label (expression_of (Skip ss)))
  diagram_marks (Push' p x) = diagram_marks x ++ text_marks (codes "PUSH")
  diagram_marks (PushLiteral s) = text_marks (leaf_label (expression_of (PushLiteral s)))
  diagram_marks (NodeTag' p x t) = diagram_marks x ++ text_marks (codes "#" ++ shortened (string_bytes t))
