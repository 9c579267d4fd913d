use Rattle.std.proofs.Common.{length, subst, sym}
use Rattle.base_ast.specs.Optimized.{optimized_rules_of}
use Rattle.pest_run.specs.Outcomes.{IsOutcome}
use Rattle.pest_run.specs.Steps.{limits_of}
use Rattle.pest_run.specs.declared.outcomes.Outcome.{Outcome}
use Rattle.pest_run.proofs.Came.{unfit}
use Rattle.pest_run.proofs.outcomes.outcome_of.Goals as goal

-- rules that can't be run
pub returns-in-Err : goal.returns-in-Err
returns-in-Err c =
    let limits = limits_of c.args.limit (length c.args.text.now) in
    let P : Outcome → Type 0 = λ o. IsOutcome (optimized_rules_of c.args.rules.now) c.args.rule.now c.args.name.now c.args.text.now c.args.format limits o in
    subst P (sym c.unfit_outcome.ensures) (unfit (optimized_rules_of c.args.rules.now) c.args.rule.now c.args.name.now c.args.text.now c.args.format limits c.in-Err.unfit c.in-Err.ensures.refused)
