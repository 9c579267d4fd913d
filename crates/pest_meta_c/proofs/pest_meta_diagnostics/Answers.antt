use Rattle.std.proofs.Common.{subst, string_bytes, IfOk}
use Rattle.pest_meta_c.specs.Diagnostics.{AreDiagnostics}
use Rattle.pest_meta_c.specs.Refusals.{Never}
use Rattle.pest_meta_c.proofs.HandedOver.{hands}
use Rattle.pest_meta_c.proofs.Lining.{accepted_silently}
use Rattle.pest_meta_c.proofs.pest_meta_diagnostics.Goals as goal

pub returns-in-Ok-clause-hands : goal.returns-in-Ok-clause-hands
returns-in-Ok-clause-hands c =
    let o = c.diagnostics.result in
    let answer = subst (λ t. IfOk o (λ lines. AreDiagnostics t (string_bytes lines))) c.in-Ok.ensures.cases.0 c.diagnostics.ensures.answered in
    hands (AreDiagnostics c.args.text.now) Never o _ _ _ _ answer c.diagnostics.ensures.refused c.hand_over.ensures

pub returns-in-Ok-clause-accepted : goal.returns-in-Ok-clause-accepted
returns-in-Ok-clause-accepted c = accepted_silently c.args.text.now _ _ _ _ (returns-in-Ok-clause-hands c)
