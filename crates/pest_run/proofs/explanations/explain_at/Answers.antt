use Rattle.std.proofs.Common.{List, subst, sym}
use Rattle.std.specs.Global.{Vec}
use Rattle.matcher_code.specs.declared.state.OpenCall.{OpenCall}
use Rattle.matcher_support.specs.Compiled.{ArePathsIn}
use Rattle.pest_run.proofs.explanations.explain_at.Goals as goal

pub returns-in-Ok : goal.returns-in-Ok
returns-in-Ok c = λ g of reported.
    let P : List (Vec OpenCall) → Type 0 = λ paths. ArePathsIn g c.args.rule.now c.args.text.now c.args.place paths in
    let are = subst P (sym c.deref.ensures.value) (c.in-Ok.ensures.paths g of) in
    c.shown_explanation.ensures g (c.rule_names-names.ensures g of) c.args.rule.now reported are c.args.steps

pub returns-in-Err : goal.returns-in-Err
returns-in-Err c = λ g of reported. c.refusal_explanation.ensures g c.args.rule.now c.args.text.now c.args.format (c.in-Err.ensures.refused g of)
