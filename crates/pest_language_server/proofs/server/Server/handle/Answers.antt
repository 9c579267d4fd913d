use Rattle.std.proofs.Common.{inl, inr, refl}
use Rattle.std.proofs.lemmas.Result.{IfOk-weaker}
use Rattle.serde_json.specs.View.{view}
use Rattle.pest_language_server.proofs.server.Server.handle.Goals as goal

pub returns-in-Ok : goal.returns-in-Ok
returns-in-Ok c = IfOk-weaker c.handle_message.result _ _ (λ reply h. inl (view c.in-Ok.message, c.in-Ok.ensures.ok.1, h)) c.handle_message.ensures

pub returns-in-Err : goal.returns-in-Err
returns-in-Err c = IfOk-weaker c.refuse_unread.result _ _ (λ reply h. inr (record { same = refl; message = h })) c.refuse_unread.ensures
