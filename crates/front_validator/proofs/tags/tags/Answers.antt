use Rattle.front_spanned.proofs.Walks.{rule_step, all_rules}
use Rattle.front_analysis.specs.Names.{grammar_of}
use Rattle.front_validator.specs.Tags.{of_tags_in}
use Rattle.front_validator.proofs.tags.tags.Goals as goal

pub loop-rule-preserved : goal.loop-rule-preserved
loop-rule-preserved c =
    rule_step (λ r. of_tags_in (grammar_of c.args.rules.now) r.body) c.args.rules.now c.loop-rule.rule-index
    c.rule-item.result _ _ c.loop-rule-test.true c.rule-item.is c.in_ok-add_of_body.ensures c.loop-rule.invariant

pub returns : goal.returns
returns c =
    all_rules (λ r. of_tags_in (grammar_of c.args.rules.now) r.body) c.args.rules.now c.loop-rule.rule-index _
    c.loop-rule-test.false c.loop-rule.invariant
