use Rattle.std.proofs.Common.{IsSomeAnd, ap, subst, sym}
use Rattle.pest_run.specs.Outcomes.{IsOutcome}
use Rattle.pest_run.specs.declared.arguments.Limits.{Limits}
use Rattle.pest_run.proofs.Came.{limit_of}
use Rattle.pest_run.proofs.outcomes.run_outcome.Goals as goal

pub returns-in-Ok : goal.returns-in-Ok
returns-in-Ok c = λ g of.
    let P : Limits → Type 0 = λ n. IsSomeAnd c.match_outcome.result (IsOutcome g c.args.rule.now c.args.name.now c.args.text.now c.args.format n) in
    subst P c.limits_of-limits.ensures (c.match_outcome.ensures g of c.args.name.now (c.in-Ok.ensures.matched g of))

pub returns-in-Err-NoMatch : goal.returns-in-Err-NoMatch
returns-in-Err-NoMatch c = λ g of.
    let told = rw c.in-Err-NoMatch.field-0-is at c.in-Err-NoMatch.ensures.refused in
    let P : Limits → Type 0 = λ n. IsSomeAnd c.failure_outcome.result (IsOutcome g c.args.rule.now c.args.name.now c.args.text.now c.args.format n) in
    subst P c.limits_of-limits.ensures (c.failure_outcome.ensures g of c.args.format (rw c.in-Err-NoMatch.field-0-is (told g of)))

pub returns-in-Err-NoRule : goal.returns-in-Err-NoRule
returns-in-Err-NoRule c = λ g of.
    let told = rw c.in-Err-NoRule.field-0-is at c.in-Err-NoRule.ensures.refused in
    let P : Limits → Type 0 = λ n. IsSomeAnd c.refusal_outcome.result (IsOutcome g c.args.rule.now c.args.name.now c.args.text.now c.args.format n) in
    subst P c.limits_of-limits.ensures (c.refusal_outcome.ensures g of c.args.name.now c.args.text.now c.utf8.text c.args.format (told g of))

pub returns-in-Err-Stopped : goal.returns-in-Err-Stopped
returns-in-Err-Stopped c = λ g of.
    let told = rw c.in-Err-Stopped.field-0-is at c.in-Err-Stopped.ensures.refused in
    let P : Limits → Type 0 = λ n. IsSomeAnd c.refusal_outcome-in-Err-Stopped.result (IsOutcome g c.args.rule.now c.args.name.now c.args.text.now c.args.format n) in
    let same = ap (λ (n : Limits). n.steps) (sym c.limits_of-limits.ensures) in
    subst P c.limits_of-limits.ensures (c.refusal_outcome-in-Err-Stopped.ensures g of c.args.name.now c.args.text.now c.utf8.text c.args.format
    (rw c.in-Err-Stopped.field-0-is (limit_of g c.args.rule.now c.args.text.now _ _ c.in-Err-Stopped.stop same (told g of))))
