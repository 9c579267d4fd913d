use Rattle.std.proofs.Common.{Err, ap, ◌∙◌}
use Rattle.std.proofs.lemmas.Result.{err_from_is_err_and}
use Rattle.base_ast.specs.Optimized.{optimized_rules_of}
use Rattle.matcher_program.proofs.Forming.{gone_inside, gone_outside, less_in, less_out, operand_within, within_inside, within_outside}
use Rattle.matcher_program.proofs.Refusing.{part_refused}
use Rattle.matcher_program.proofs.forms.form_of.Goals as goal

pub steps-smaller-in-Ok : goal.steps-smaller-in-Ok
steps-smaller-in-Ok c =
    less_in c.steps.step c.in_ok-step-in-Ok.step c.steps.outside.items c.push.new.self.items c.in-Inside.around c.in-Inside.operand c.in-Inside.is c.in-Ok.ensures.items c.in_ok-step-in-Ok.ensures.work

pub steps-preserved-in-Ok : goal.steps-preserved-in-Ok
steps-preserved-in-Ok c = (
  gone_inside _ _ _ c.steps.step c.in_ok-step-in-Ok.step c.steps.outside.items c.push.new.self.items c.in-Inside.around c.in-Inside.operand c.in-Inside.is c.in-Ok.ensures.items c.in_ok-step-in-Ok.ensures.says c.in_ok-step-in-Ok.ensures.sound c.steps.invariant.0,
  within_inside _ _ _ _ _ _ _ c.in-Inside.is c.in-Ok.ensures.items c.in_ok-step-in-Ok.ensures.within c.steps.invariant.1,
)

pub steps-smaller : goal.steps-smaller
steps-smaller c =
    less_out c.steps.step c.in_ok-step-in-Some.step c.steps.outside.items c.pop.new.self.items c.in-Some.around c.in-Made.form c.in-Made.is c.in-Some.ensures.items c.in_ok-step-in-Some.ensures.work

pub steps-preserved : goal.steps-preserved
steps-preserved c =
    let g = optimized_rules_of c.args.rules.now.rules.now in
    let ps = c.args.properties.now in (
      gone_outside g ps _ c.steps.step c.in_ok-step-in-Some.step c.steps.outside.items c.pop.new.self.items c.in-Some.around c.in-Made.form c.in-Made.is c.in-Some.ensures.items (c.in_ok-step-in-Some.ensures.says g ps) (c.in_ok-step-in-Some.ensures.sound g ps) c.steps.invariant.0,
      within_outside _ _ _ _ _ _ c.in-Some.ensures.items (c.in_ok-step-in-Some.ensures.within _) c.steps.invariant.1,
    )

pub returns-in_err-step-in-Ok-clause-refused : goal.returns-in_err-step-in-Ok-clause-refused
returns-in_err-step-in-Ok-clause-refused c =
    let p = err_from_is_err_and c.from_residual-in_err-step-in-Ok.result c.from_residual-in_err-step-in-Ok.ensures.1 in
    part_refused c.args.properties.now (optimized_rules_of c.args.rules.now.rules.now) _ _ c.from_residual-in_err-step-in-Ok.result c.in_err-step-in-Ok.field-0.0 (p.1 ∙ ap (λ e. Err e) p.2) (operand_within _ _ _ _ _ c.in-Inside.is c.steps.invariant.1) c.in_err-step-in-Ok.ensures.refused
