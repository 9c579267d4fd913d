use Rattle.std.proofs.Common.{◌∙◌, ap, length, subst, sym}
use Rattle.std.proofs.lemmas.Result.{IfErr-weaker}
use Rattle.matcher_engine.specs.Limits.{IsAmple, steps_of, turns_of}
use Rattle.matcher_support.specs.Compiled.{operations_of}
use Rattle.pest_run.specs.Steps.{match_limit, step_limit}
use Rattle.pest_run.proofs.Came.{fewer_steps, within_match_limit}
use Rattle.pest_run.proofs.matching.match_rule.Goals as goal

pub returns-clause-refused : goal.returns-clause-refused
returns-clause-refused c = λ g of.
    IfErr-weaker c.match_text.result _ _
    (λ why. fewer_steps g c.args.rule.now c.args.text.now (step_limit c.args.limit (length c.args.text.now)) (steps_of c.limit_of.result) why
    (within_match_limit c.args.limit (length c.args.text.now) _ c.limit_of.result c.limit_of.ensures)) (c.match_text.ensures.refused g of)

pub returns-clause-answered : goal.returns-clause-answered
returns-clause-answered c = λ g of ample o d.
    let same = ap (λ b. match_limit c.args.limit b (length c.args.text.now)) c.is_some.ensures in
    c.match_text.ensures.answered g of (subst (λ l. IsAmple g (operations_of c.args.rules.now) (length c.args.text.now) (turns_of l)) (sym (c.limit_of.ensures ∙ same)) ample) o d
