use Rattle.std.proofs.Common.{subst, IfErr, IfOk}
use Rattle.pest_meta_c.specs.Answers.{IsGrammar}
use Rattle.pest_meta_c.specs.Outcomes.{RefusesWith}
use Rattle.pest_meta_c.specs.Refusals.{IsRefused}
use Rattle.pest_meta_c.proofs.HandedOver.{hands_bytes}
use Rattle.pest_meta_c.proofs.pest_meta_grammar.Goals as goal

pub returns-in-Ok-clause-hands : goal.returns-in-Ok-clause-hands
returns-in-Ok-clause-hands c =
    let same = c.in-Ok.ensures.cases.0 in
    let o = c.grammar.result in
    let answer = subst (λ t. IfOk o (λ bytes. IsGrammar t bytes.items)) same c.grammar.ensures.answered in
    let refusal = subst (λ t. IfErr o (RefusesWith (IsRefused t))) same c.grammar.ensures.refused in
    hands_bytes (IsGrammar c.args.text.now) (IsRefused c.args.text.now) o _ _ _ _ answer refusal c.hand_over_bytes.ensures
