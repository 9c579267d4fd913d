use Rattle.std.proofs.Common.{subst, IfErr, IfOk}
use Rattle.pest_meta_c.specs.Answers.{AreTokenNumbers}
use Rattle.pest_meta_c.specs.Outcomes.{RefusesNumbers}
use Rattle.pest_meta_c.specs.Refusals.{HasNoMatch}
use Rattle.pest_meta_c.proofs.HandedOver.{hands_numbers}
use Rattle.pest_meta_c.proofs.pest_meta_token_numbers.Goals as goal

pub returns-in-Ok-Ok-clause-hands : goal.returns-in-Ok-Ok-clause-hands
returns-in-Ok-Ok-clause-hands c =
    let text = c.in-Ok-Ok.ensures.cases.0 in
    let rule = c.in-Ok-Ok.ensures'.cases.0 in
    let o = c.token_numbers.result in
    let with_text = subst (λ t. IfOk o (λ numbers. AreTokenNumbers t c.in-Ok-Ok.rule.now numbers.items)) text c.token_numbers.ensures.answered in
    let answer = subst (λ r. IfOk o (λ numbers. AreTokenNumbers c.args.text.now r numbers.items)) rule with_text in
    let none_with_text = subst (λ t. IfErr o (RefusesNumbers (HasNoMatch t c.in-Ok-Ok.rule.now))) text c.token_numbers.ensures.refused in
    let refusal = subst (λ r. IfErr o (RefusesNumbers (HasNoMatch c.args.text.now r))) rule none_with_text in
    hands_numbers (AreTokenNumbers c.args.text.now c.args.rule.now) (HasNoMatch c.args.text.now c.args.rule.now) o _ _ _ _ answer refusal c.hand_over_numbers.ensures
