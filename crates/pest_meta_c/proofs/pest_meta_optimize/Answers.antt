use Rattle.std.proofs.Common.{subst, string_bytes, IfErr, IfOk}
use Rattle.pest_meta_c.specs.Answers.{AreOptimized}
use Rattle.pest_meta_c.specs.Outcomes.{RefusesWith}
use Rattle.pest_meta_c.specs.Refusals.{IsNoRules}
use Rattle.pest_meta_c.proofs.HandedOver.{hands}
use Rattle.pest_meta_c.proofs.pest_meta_optimize.Goals as goal

pub returns-in-Ok-clause-hands : goal.returns-in-Ok-clause-hands
returns-in-Ok-clause-hands c =
    let same = c.in-Ok.ensures.cases.0 in
    let answer = subst (λ t. IfOk c.optimize.result (λ json. AreOptimized t (string_bytes json))) same c.optimize.ensures.answered in
    let refusal = subst (λ t. IfErr c.optimize.result (RefusesWith (IsNoRules t))) same c.optimize.ensures.refused in
    hands (AreOptimized c.args.rules.now) (IsNoRules c.args.rules.now) c.optimize.result _ _ _ _ answer refusal c.hand_over.ensures
