use Rattle.std.proofs.Common.{take}
use Rattle.base_ast.specs.Ast.{rules_of}
use Rattle.front_optimizer.proofs.Holding.{one_rule_more}
use Rattle.front_optimizer.proofs.bodies.bodies_of.Goals as goal

pub loop-rule-preserved : goal.loop-rule-preserved
loop-rule-preserved c =
    rw (one_rule_more c.deref-rule-items.result.now c.loop-rule.rule-index c.rule-item.result c.loop-rule-test.true c.rule-item.is)
    (c.in_ok-add_body.ensures (rules_of (take c.loop-rule.rule-index c.deref-rule-items.result.now)) c.loop-rule.invariant)
