use Rattle.std.proofs.Common.{◌≤◌, Some, length, map, sym, ap, ◌∙◌, arith}
use Rattle.std.proofs.lemmas.Result.{err_from_is_err_and}
use Rattle.serde_json.specs.Data.{array}
use Rattle.serde_json.specs.View.{items_of, view}
use Rattle.format_json.specs.Format.{optimized_nodes_of}
use Rattle.format_json.specs.Reading.{members_of_optimized}
use Rattle.format_json.proofs.Lists.{all_read}
use Rattle.format_json.proofs.Refused.{in_list, of_text}
use Rattle.format_json.proofs.rules.read_optimized_rules.Goals as goal

-- the values are those of the text, and all of them are read
pub returns-clause-rules : goal.returns-clause-rules
returns-clause-rules c =
    let values = c.deref-value-items.result.now in
    let all : length values ≤ c.loop-place.place = omega arith in
    let ended = sym c.deref-value-items.ensures.value in (
      map view values,
      c.in_ok-value.ensures.value ∙ ap Some (c.in_ok-values.ensures.list ∙ ap (λ vs. array (items_of (map view vs))) ended),
      all_read members_of_optimized _ values c.loop-place.place c.loop-place.invariant all
          ∙ ap (λ rules. map members_of_optimized rules.items) (sym c.into_inner.ensures),
    )

-- the first value that is no rule
pub returns-in_err-optimized_rule_of-clause-refused : goal.returns-in_err-optimized_rule_of-clause-refused
returns-in_err-optimized_rule_of-clause-refused c =
    let p = err_from_is_err_and c.from_residual-in_err-optimized_rule_of.result c.from_residual-in_err-optimized_rule_of.ensures.1 in
    rw (p.1, p.2) (of_text optimized_nodes_of c.args.text.now (view c.value-item.result) c.loop-place.place c.in_err-optimized_rule_of.field-0.0 c.in_err-optimized_rule_of.ensures.refused)

pub returns-in_err-optimized_rule_of-clause-exact : goal.returns-in_err-optimized_rule_of-clause-exact
returns-in_err-optimized_rule_of-clause-exact c =
    let p = err_from_is_err_and c.from_residual-in_err-optimized_rule_of.result c.from_residual-in_err-optimized_rule_of.ensures.1 in
    let values = c.deref-value-items.result.now in
    let ended = sym c.deref-value-items.ensures.value in
    let lists = c.in_ok-value.ensures.value ∙ ap Some (c.in_ok-values.ensures.list ∙ ap (λ vs. array (items_of (map view vs))) ended) in
    rw (p.1, p.2)
    (in_list members_of_optimized optimized_nodes_of c.args.text.now values c.loop-place.rules.value.items c.value-item.result c.loop-place.place c.in_err-optimized_rule_of.field-0.0 lists c.loop-place.invariant c.loop-place-test.true c.value-item.is c.in_err-optimized_rule_of.ensures.refused)
