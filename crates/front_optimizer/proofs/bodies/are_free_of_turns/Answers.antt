use Rattle.std.proofs.Common.{◌≡◌, true, rules, take}
use Rattle.std.proofs.lemmas.List.{take_all}
use Rattle.base_ast.specs.Ast.{rule_of_code, rules_of}
use Rattle.front_optimizer.proofs.Holding.{one_rule_more}
use Rattle.front_optimizer.proofs.Turning.{one_more_free}
use Rattle.front_optimizer.proofs.bodies.are_free_of_turns.Goals as goal

pub loop-rule-preserved : goal.loop-rule-preserved
loop-rule-preserved c =
    let free : c.in_ok-is_free.is_free ≡ true = search rules in
    rw (one_rule_more c.deref-rule-items.result.now c.loop-rule.rule-index c.rule-item.result c.loop-rule-test.true c.rule-item.is)
    (one_more_free (rules_of (take c.loop-rule.rule-index c.deref-rule-items.result.now)) (rule_of_code c.rule-item.result) c.loop-rule.invariant (rw free at c.in_ok-is_free.ensures))

pub returns : goal.returns
returns c =
    let whole = take_all c.loop-rule.rule-index c.deref-rule-items.result.now c.loop-rule-test.false in
    rw (← c.deref-rule-items.ensures.value) (rw whole at c.loop-rule.invariant)
