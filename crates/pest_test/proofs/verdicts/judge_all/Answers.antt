use Rattle.std.proofs.Common.{subst}
use Rattle.std.proofs.lemmas.List.{take_all}
use Rattle.pest_test.specs.Verdicts.{AreVerdicts, IsVerdict}
use Rattle.pest_test.proofs.Zipping.{one_more}
use Rattle.pest_test.proofs.verdicts.judge_all.Goals as goal

pub loop-case-preserved : goal.loop-case-preserved
loop-case-preserved c = λ g compiled.
    one_more (IsVerdict g c.args.default.now) c.args.cases.now _ _ c.loop-case.case-index c.case-item.result _ c.loop-case-test.true c.case-item.is
    (c.loop-case.invariant g compiled) (c.in_ok-judge.ensures g compiled) c.in_ok-push.ensures.items

pub returns : goal.returns
returns c = λ g compiled.
    subst (λ cases. AreVerdicts g c.args.default.now cases c.loop-case.verdicts.items)
    (take_all c.loop-case.case-index c.args.cases.now c.loop-case-test.false) (c.loop-case.invariant g compiled)
