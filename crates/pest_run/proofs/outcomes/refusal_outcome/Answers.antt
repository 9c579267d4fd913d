use Rattle.std.proofs.Common.{subst}
use Rattle.matcher_engine.specs.declared.block.runs.BlockStop.{BlockStop}
use Rattle.matcher_support.specs.Compiled.{IsUnanswered}
use Rattle.pest_run.proofs.Came.{stopped, unknown}
use Rattle.pest_run.proofs.outcomes.refusal_outcome.Goals as goal

pub returns-in-NoRule : goal.returns-in-NoRule
returns-in-NoRule c = λ g of name text utf8 format h.
    let P : BlockStop → Type 0 = λ s. IsUnanswered g c.args.rule.now text c.args.limits.steps s in
    unknown g c.args.rule.now name text format c.args.limits c.no_rule_outcome.result (subst P c.in-NoRule.is h) (c.no_rule_outcome.ensures g (c.rule_names.ensures g of))

pub returns-in-Stopped : goal.returns-in-Stopped
returns-in-Stopped c = λ g of name text utf8 format h.
    let P : BlockStop → Type 0 = λ s. IsUnanswered g c.args.rule.now text c.args.limits.steps s in
    stopped g c.args.rule.now name text format c.args.limits c.in-Stopped.stop c.stopped_outcome.result utf8 (subst P c.in-Stopped.is h) c.stopped_outcome.ensures
