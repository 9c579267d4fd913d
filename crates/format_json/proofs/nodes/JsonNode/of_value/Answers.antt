use Rattle.std.proofs.Common.{arith, ap, sym, ◌∙◌, IfErr, Some, subst}
use Rattle.serde_json.specs.View.{items_view, view}
use Rattle.base_language.proofs.Copying.{first_and_others}
use Rattle.format_json.specs.Nodes.{IsNoNode}
use Rattle.format_json.specs.Unread.{OnReason}
use Rattle.format_json.proofs.NoArguments.{unnamed_list, whole_node}
use Rattle.format_json.proofs.NoNodes.{no_list}
use Rattle.format_json.proofs.nodes.JsonNode.of_value.Goals as goal

pub returns-in_default-clause-refused : goal.returns-in_default-clause-refused
returns-in_default-clause-refused c = no_list _ (sym c.in_default.ensures)

pub returns-in-None-clause-refused : goal.returns-in-None-clause-refused
returns-in-None-clause-refused c =
    unnamed_list _ c.as_slice.result.now c.form-item.result (ap (λ vs. Some (items_view vs)) c.as_slice.ensures.value ∙ c.in-Some.ensures) (omega (arith, c.in-len1-up.len_at_least)) c.form-item.is (sym c.in-None.ensures)

pub returns-in-Some-as_str-clause-refused : goal.returns-in-Some-as_str-clause-refused
returns-in-Some-as_str-clause-refused c =
    subst (λ d. IfErr c.node_of.result (λ u. OnReason u (IsNoNode d)))
    (whole_node (view c.args.value.now) c.as_slice.result.now _ c.form-item.result c.in-Some-as_str.form.now (ap (λ vs. Some (items_view vs)) c.as_slice.ensures.value ∙ c.in-Some.ensures) (first_and_others c.as_slice.result.now c.form-item.result _ c.form-item.is (omega (arith, c.in-len1-up.len_at_least)) (omega arith)) c.in-Some-as_str.ensures)
    c.node_of.ensures.refused
