use Rattle.std.proofs.Common.{map, subst}
use Rattle.std.proofs.lemmas.List.{take_all}
use Rattle.serde_json.specs.View.{view}
use Rattle.pest_lint.specs.Logs.{AreRules}
use Rattle.pest_lint.proofs.Logging.{one_rule_more}
use Rattle.pest_lint.proofs.log.rules_of.Goals as goal

pub loop-facts-preserved : goal.loop-facts-preserved
loop-facts-preserved c =
    one_rule_more c.args.codes.now c.loop-facts.facts-index _ c.loop-facts.rules.items _ c.in_ok-rule.rule _ c.loop-facts-test.true c.loop-facts.invariant c.in_ok-rule.ensures
    c.in_ok-push.ensures.items

pub returns : goal.returns
returns c =
    subst (λ codes. AreRules (map (λ facts. facts.code) codes) (map view c.loop-facts.rules.items)) (take_all c.loop-facts.facts-index c.args.codes.now c.loop-facts-test.false) c.loop-facts.invariant
