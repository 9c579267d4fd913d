use Rattle.std.proofs.Common.{map, take}
use Rattle.serde_json.specs.View.{view}
use Rattle.pest_lint.specs.Logs.{AreRules}
use Rattle.pest_lint.proofs.log.rules_of.Given as goal

-- the rules of the codes so far
abbrev pub invariant-loop-facts : goal.invariant-loop-facts
invariant-loop-facts l = AreRules (map (λ facts. facts.code) (take l.facts-index l.codes)) (map view l.rules.items)
