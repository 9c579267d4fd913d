-- Rules with the spans of their nodes as JSON values.
use Rattle.std.specs.Prelude.{List, [], ◌∷◌, ◌++◌, codes, map, string_bytes}
use Rattle.serde_json.specs.Data.{Data, member, no_members, object, string}
use Rattle.format_json.specs.Errors.{list_data, size_data}
use Rattle.format_json.specs.Format.{count_data, end_data, form, form_with, form_with_two, place_data, text_data, type_name}
use Rattle.front_spanned.specs.Nodes.{piece_of, view}
use Rattle.front_spanned.specs.Spanned.{Span, Spanned, span_of}
use Rattle.front_spanned.specs.Walk.{preorder}
use Rattle.front_spanned.specs.declared.node.ParserExpr.{ParserExpr}
use Rattle.front_spanned.specs.declared.node.ParserExpr.TheVariants as is
use Rattle.front_spanned.specs.declared.node.ParserRule.{ParserRule}

-- an expression's nodes in preorder; the `p` and `q` are the addresses of its boxes, the `s` and `t` the
-- spans of its operands
abbrev pub nodes_of_placed : ParserExpr → List Data
nodes_of_placed (is.Str u) = form_with (codes "str") (text_data u) ∷ []
nodes_of_placed (is.Insens u) = form_with (codes "insens") (text_data u) ∷ []
nodes_of_placed (is.Range u v) = form_with_two (codes "range") (text_data u) (text_data v) ∷ []
nodes_of_placed (is.Ident u) = form_with (codes "ident") (text_data u) ∷ []
nodes_of_placed (is.PeekSlice i j) = form_with_two (codes "peek_slice") (place_data i) (end_data j) ∷ []
nodes_of_placed (is.PosPred' p x s) = form (codes "pos_pred") ∷ nodes_of_placed x
nodes_of_placed (is.NegPred' p x s) = form (codes "neg_pred") ∷ nodes_of_placed x
nodes_of_placed (is.Seq' p x s q y t) = form (codes "seq") ∷ nodes_of_placed x ++ nodes_of_placed y
nodes_of_placed (is.Choice' p x s q y t) = form (codes "choice") ∷ nodes_of_placed x ++ nodes_of_placed y
nodes_of_placed (is.Opt' p x s) = form (codes "opt") ∷ nodes_of_placed x
nodes_of_placed (is.Rep' p x s) = form (codes "rep") ∷ nodes_of_placed x
nodes_of_placed (is.RepOnce' p x s) = form (codes "rep_once") ∷ nodes_of_placed x
nodes_of_placed (is.RepExact' p x s n) = form_with (codes "rep_exact") (count_data n) ∷ nodes_of_placed x
nodes_of_placed (is.RepMin' p x s m) = form_with (codes "rep_min") (count_data m) ∷ nodes_of_placed x
nodes_of_placed (is.RepMax' p x s n) = form_with (codes "rep_max") (count_data n) ∷ nodes_of_placed x
nodes_of_placed (is.RepMinMax' p x s m n) =
    form_with_two (codes "rep_min_max") (count_data m) (count_data n) ∷ nodes_of_placed x
nodes_of_placed (is.Push' p x s) = form (codes "push") ∷ nodes_of_placed x
nodes_of_placed (is.PushLiteral u) = form_with (codes "push_literal") (text_data u) ∷ []
nodes_of_placed (is.NodeTag' p x s u) = form_with (codes "node_tag") (text_data u) ∷ nodes_of_placed x

-- the start and the end of a piece of a text
abbrev pub span_data : Span → Data
span_data s = list_data (size_data s.start ∷ size_data s.end ∷ [])

-- the spans of a node and its descendants in preorder
abbrev pub spans_data : Spanned → Data
spans_data x = list_data (map (λ y. span_data (span_of y)) (preorder x))

-- a rule with its spans
abbrev pub placed_rule_data : ParserRule → Data
placed_rule_data r = object (member (codes "expr") (list_data (nodes_of_placed r.node.expr))
    (member (codes "name") (string (string_bytes r.name))
    (member (codes "name_span") (span_data (piece_of r.span))
    (member (codes "spans") (spans_data (view r.node)) (member (codes "type") (string (type_name r.ty))
    no_members)))))

-- lists of such rules
abbrev pub placed_rules_data : List ParserRule → Data
placed_rules_data rules = list_data (map placed_rule_data rules)
