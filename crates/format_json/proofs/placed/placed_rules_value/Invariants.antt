use Rattle.std.proofs.Common.{◌≡◌, map, take}
use Rattle.serde_json.specs.View.{view}
use Rattle.format_json.specs.Placed.{placed_rule_data}
use Rattle.format_json.proofs.placed.placed_rules_value.Given as goal

-- what is written are the rules so far
abbrev pub invariant-loop-rule : goal.invariant-loop-rule
invariant-loop-rule l = map view l.values.items ≡ map placed_rule_data (take l.rule-index l.rules)
