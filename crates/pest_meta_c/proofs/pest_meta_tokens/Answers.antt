use Rattle.std.proofs.Common.{subst, string_bytes, IfErr, IfOk}
use Rattle.pest_meta_c.specs.Answers.{AreTokens}
use Rattle.pest_meta_c.specs.Outcomes.{RefusesWith}
use Rattle.pest_meta_c.specs.Refusals.{HasNoTokens}
use Rattle.pest_meta_c.proofs.HandedOver.{hands}
use Rattle.pest_meta_c.proofs.pest_meta_tokens.Goals as goal

pub returns-in-Ok-Ok-clause-hands : goal.returns-in-Ok-Ok-clause-hands
returns-in-Ok-Ok-clause-hands c =
    let text = c.in-Ok-Ok.ensures.cases.0 in
    let rule = c.in-Ok-Ok.ensures'.cases.0 in
    let o = c.tokens.result in
    let with_text = subst (λ t. IfOk o (λ json. AreTokens t c.in-Ok-Ok.rule.now (string_bytes json))) text c.tokens.ensures.answered in
    let answer = subst (λ r. IfOk o (λ json. AreTokens c.args.text.now r (string_bytes json))) rule with_text in
    let none_with_text = subst (λ t. IfErr o (RefusesWith (HasNoTokens t c.in-Ok-Ok.rule.now))) text c.tokens.ensures.refused in
    let refusal = subst (λ r. IfErr o (RefusesWith (HasNoTokens c.args.text.now r))) rule none_with_text in
    hands (AreTokens c.args.text.now c.args.rule.now) (HasNoTokens c.args.text.now c.args.rule.now) o _ _ _ _ answer refusal c.hand_over.ensures
