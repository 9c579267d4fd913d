-- Nor have rules with places floats.
use Rattle.std.proofs.Common.{◌≡◌, false, List, refl}
use Rattle.std.proofs.lemmas.Bool.{or_from}
use Rattle.serde_json.specs.View.{items_of}
use Rattle.serde_json.specs.Written.{has_float, items_have_float}
use Rattle.front_spanned.specs.Nodes.{view}
use Rattle.front_spanned.specs.Spanned.{Spanned, span_of}
use Rattle.front_spanned.specs.Walk.{preorder}
use Rattle.front_spanned.specs.declared.node.ParserExpr.{ParserExpr}
use Rattle.front_spanned.specs.declared.node.ParserExpr.TheVariants as is
use Rattle.front_spanned.specs.declared.node.ParserRule.{ParserRule}
use Rattle.format_json.specs.Format.{end_data, place_data}
use Rattle.format_json.specs.Placed.{nodes_of_placed, placed_rule_data, placed_rules_data, span_data, spans_data}
use Rattle.format_json.proofs.Floats.{append_free, end_free, map_free, one_free, place_float}

nodes_free : (e : ParserExpr) → items_have_float (items_of (nodes_of_placed e)) ≡ false
nodes_free (is.Str u) = refl
nodes_free (is.Insens u) = refl
nodes_free (is.Range u v) = refl
nodes_free (is.Ident u) = refl
nodes_free (is.PeekSlice i j) = one_free (has_float (place_data i)) (has_float (end_data j)) (place_float i) (end_free j)
nodes_free (is.PosPred' p x s) = nodes_free x
nodes_free (is.NegPred' p x s) = nodes_free x
nodes_free (is.Seq' p x s q y t) = append_free (nodes_of_placed x) (nodes_of_placed y) (nodes_free x) (nodes_free y)
nodes_free (is.Choice' p x s q y t) = append_free (nodes_of_placed x) (nodes_of_placed y) (nodes_free x) (nodes_free y)
nodes_free (is.Opt' p x s) = nodes_free x
nodes_free (is.Rep' p x s) = nodes_free x
nodes_free (is.RepOnce' p x s) = nodes_free x
nodes_free (is.RepExact' p x s n) = nodes_free x
nodes_free (is.RepMin' p x s m) = nodes_free x
nodes_free (is.RepMax' p x s n) = nodes_free x
nodes_free (is.RepMinMax' p x s m n) = nodes_free x
nodes_free (is.Push' p x s) = nodes_free x
nodes_free (is.PushLiteral u) = refl
nodes_free (is.NodeTag' p x s u) = nodes_free x

spans_free : (x : Spanned) → has_float (spans_data x) ≡ false
spans_free x = map_free (λ y. span_data (span_of y)) (λ y. refl) (preorder x)

rule_free : (r : ParserRule) → has_float (placed_rule_data r) ≡ false
rule_free r = or_from _ _ (nodes_free r.node.expr) (or_from _ false (spans_free (view r.node)) refl)

pub placed_without_floats : (rules : List ParserRule) → has_float (placed_rules_data rules) ≡ false
placed_without_floats rules = map_free placed_rule_data rule_free rules
