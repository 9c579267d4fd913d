use Rattle.pest_check.proofs.Gained.{all_lines, one_line_more}
use Rattle.pest_check.proofs.checks.lines_of.Goals as goal

pub loop-rule-preserved : goal.loop-rule-preserved
loop-rule-preserved c =
    one_line_more _ _ _ _ _ _ c.loop-rule-test.true c.rule-item.is c.sign_of-modifier.ensures c.loop-rule.invariant c.in_ok-writeln.ensures.bytes

pub returns : goal.returns
returns c = all_lines _ _ _ c.loop-rule-test.false c.loop-rule.invariant
