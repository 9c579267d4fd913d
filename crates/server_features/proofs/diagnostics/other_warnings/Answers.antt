use Rattle.std.proofs.Common.{◌∙◌, IfOk, Some, inr, string_bytes, sym}
use Rattle.std.proofs.lemmas.Result.{IfOk-weaker}
use Rattle.server_features.specs.Diagnostics.{AreOthers}
use Rattle.server_features.proofs.diagnostics.other_warnings.Goals as goal

pub returns-in-Some : goal.returns-in-Some
returns-in-Some c =
    let text = string_bytes c.args.diagnosis.now.text in
    let diagnostics = c.args.diagnosis.now.diagnostics.items in
    let refused = sym c.is_refused.ensures ∙ c.if-is_refused.true in
    let stays = rw c.as_str.ensures.value at c.staying_warnings.ensures in
    let others : IfOk c.staying_warnings.result (λ others. AreOthers (Some c.in-Some.earlier.now) text diagnostics others.items) =
    IfOk-weaker c.staying_warnings.result _ _ (λ others stay. inr (record { refused = refused; stay = stay })) stays in
    rw c.in-Some.is others
