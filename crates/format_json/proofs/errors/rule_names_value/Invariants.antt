use Rattle.std.proofs.Common.{◌≡◌, map, take}
use Rattle.serde_json.specs.Data.{string}
use Rattle.serde_json.specs.View.{view}
use Rattle.base_language.specs.Pieces.MetaRules.{name_of}
use Rattle.format_json.proofs.errors.rule_names_value.Given as goal

-- what is written are the rules so far
abbrev pub invariant-loop-rule : goal.invariant-loop-rule
invariant-loop-rule l = map view l.values.items ≡ map (λ rule. string (name_of rule)) (take l.rule-index l.rules)
