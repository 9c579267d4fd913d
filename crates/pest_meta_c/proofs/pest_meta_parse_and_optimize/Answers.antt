use Rattle.std.proofs.Common.{subst, string_bytes, IfErr, IfOk}
use Rattle.pest_meta_c.specs.Answers.{IsWhole}
use Rattle.pest_meta_c.specs.Outcomes.{RefusesWith}
use Rattle.pest_meta_c.specs.Refusals.{IsRefused}
use Rattle.pest_meta_c.proofs.HandedOver.{hands}
use Rattle.pest_meta_c.proofs.pest_meta_parse_and_optimize.Goals as goal

pub returns-in-Ok-clause-hands : goal.returns-in-Ok-clause-hands
returns-in-Ok-clause-hands c =
    let same = c.in-Ok.ensures.cases.0 in
    let o = c.parse_and_optimize.result in
    let answer = subst (λ t. IfOk o (λ json. IsWhole t (string_bytes json))) same c.parse_and_optimize.ensures.answered in
    let refusal = subst (λ t. IfErr o (RefusesWith (IsRefused t))) same c.parse_and_optimize.ensures.refused in
    hands (IsWhole c.args.text.now) (IsRefused c.args.text.now) o _ _ _ _ answer refusal c.hand_over.ensures
