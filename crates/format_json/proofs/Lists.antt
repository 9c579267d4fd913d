-- A list of values that was read to its end.
use Rattle.std.proofs.Common.{◌≡◌, ◌≤◌, ℕ, List, length, map, take, sym, ap, ◌∙◌}
use Rattle.std.proofs.lemmas.List.{take_all}
use Rattle.std.proofs.lemmas.Simd.{map-map}
use Rattle.serde_json.specs.View.{view}
use Rattle.serde_json.specs.declared.value.Value.{Value}
use Rattle.format_json.specs.Reading.{Members, members_of}

pub all_read : {R : Type 0} (of_rule : R → Members) (rules : List R) (values : List Value) (n : ℕ)
    → map of_rule rules ≡ map (λ v. members_of (view v)) (take n values) → length values ≤ n
    → map members_of (map view values) ≡ map of_rule rules
all_read of_rule rules values n h le =
    map-map members_of view values ∙ (ap (map (λ v. members_of (view v))) (sym (take_all n values le)) ∙ sym h)
