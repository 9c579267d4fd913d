use Rattle.std.proofs.Common.{subst, IfErr, IfOk}
use Rattle.pest_meta_c.specs.Answers.{IsPrepared}
use Rattle.pest_meta_c.specs.Outcomes.{RefusesWith}
use Rattle.pest_meta_c.specs.Refusals.{IsNoOptimized}
use Rattle.pest_meta_c.proofs.HandedOver.{hands_bytes}
use Rattle.pest_meta_c.proofs.pest_meta_prepare.Goals as goal

pub returns-in-Ok-clause-hands : goal.returns-in-Ok-clause-hands
returns-in-Ok-clause-hands c =
    let same = c.in-Ok.ensures.cases.0 in
    let o = c.prepare.result in
    let answer = subst (λ t. IfOk o (λ bytes. IsPrepared t bytes.items)) same c.prepare.ensures.answered in
    let refusal = subst (λ t. IfErr o (RefusesWith (IsNoOptimized t))) same c.prepare.ensures.refused in
    hands_bytes (IsPrepared c.args.rules.now) (IsNoOptimized c.args.rules.now) o _ _ _ _ answer refusal c.hand_over_bytes.ensures
