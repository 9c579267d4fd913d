use Rattle.std.proofs.Common.{subst}
use Rattle.matcher_engine.specs.declared.block.runs.BlockStop.{BlockStop}
use Rattle.matcher_support.specs.Compiled.{IsRefusedBy}
use Rattle.pest_run.proofs.NoFailures.{matched}
use Rattle.pest_run.proofs.explanations.find_reported.Goals as goal

pub returns-in-Ok-clause-unexplained : goal.returns-in-Ok-clause-unexplained
returns-in-Ok-clause-unexplained c = λ g of format. matched g c.args.rule.now c.args.text.now _ (c.in-Ok.ensures.matched g of)

pub returns-in-NoMatch-clause-reported : goal.returns-in-NoMatch-clause-reported
returns-in-NoMatch-clause-reported c = λ g of.
    let P : BlockStop → Type 0 = λ s. IsRefusedBy g c.args.rule.now c.args.text.now c.args.steps s in
    c.find_shown.ensures.reported g of (subst P c.in-NoMatch.is (c.in-Err.ensures.refused g of))

pub returns-in-NoMatch-clause-unexplained : goal.returns-in-NoMatch-clause-unexplained
returns-in-NoMatch-clause-unexplained c = λ g of.
    let P : BlockStop → Type 0 = λ s. IsRefusedBy g c.args.rule.now c.args.text.now c.args.steps s in
    c.find_shown.ensures.unexplained g of (subst P c.in-NoMatch.is (c.in-Err.ensures.refused g of))

pub returns-in-Stopped-clause-unexplained : goal.returns-in-Stopped-clause-unexplained
returns-in-Stopped-clause-unexplained c = λ g of format.
    let P : BlockStop → Type 0 = λ s. IsRefusedBy g c.args.rule.now c.args.text.now c.args.steps s in
    c.stop_explanation.ensures g c.args.rule.now c.args.text.now format (subst P c.in-Stopped.is (c.in-Err.ensures.refused g of))
