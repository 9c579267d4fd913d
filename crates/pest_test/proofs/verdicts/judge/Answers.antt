use Rattle.std.proofs.Common.{IfOk, subst}
use Rattle.matcher_support.specs.Compiled.{IsRefusedBy}
use Rattle.pest_test.specs.Verdicts.{IsVerdictBy}
use Rattle.pest_test.proofs.verdicts.judge.Goals as goal

pub returns-in-Err : goal.returns-in-Err
returns-in-Err c = λ g compiled.
    let case = c.args.case.now in
    subst (λ r. IfOk c.judge_stop.result (IsVerdictBy g r case)) c.rule_of-rule.ensures
    (c.judge_stop.ensures g c.rule_of-rule.result.now
    (subst (λ n. IsRefusedBy g c.rule_of-rule.result.now case.text.now n c.in-Err.stop) c.most_steps.ensures (c.in-Err.ensures.refused g compiled)))
