use Rattle.std.proofs.Common.{length, subst}
use Rattle.matcher_support.specs.Compiled.{IsRefusedBy}
use Rattle.pest_test.specs.Verdicts.{most_steps}
use Rattle.pest_test.proofs.verdicts.judge_stop.Goals as goal

pub returns-in-NoMatch : goal.returns-in-NoMatch
returns-in-NoMatch c = λ g rule refused.
    let text = c.args.case.now.text.now in
    c.judge_failure.ensures g rule (subst (IsRefusedBy g rule text (most_steps (length text))) c.in-NoMatch.is refused)
