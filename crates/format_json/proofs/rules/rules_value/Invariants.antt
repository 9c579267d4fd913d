use Rattle.std.proofs.Common.{◌≡◌, map, string_bytes, take}
use Rattle.serde_json.specs.View.{view}
use Rattle.format_json.specs.Format.{nodes_of, rule_data}
use Rattle.format_json.proofs.rules.rules_value.Given as goal

-- what is written are the rules so far
abbrev pub invariant-loop-rule : goal.invariant-loop-rule
invariant-loop-rule l =
    map view l.values.items ≡ map (λ r. rule_data (string_bytes r.name) r.ty (nodes_of r.expr)) (take l.rule-index l.rules)
