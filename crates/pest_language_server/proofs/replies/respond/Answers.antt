use Rattle.std.proofs.Common.{◌∙◌, Ok, ap, inr, sym}
use Rattle.std.proofs.lemmas.Result.{IfOk-weaker}
use Rattle.pest_language_server.proofs.Answering.{IsOneMessage-weaker, IsResponse-weaker}
use Rattle.pest_language_server.proofs.replies.respond.Goals as goal

pub returns-in-Ok : goal.returns-in-Ok
returns-in-Ok c = IfOk-weaker c.respond_by.result _ _ (λ reply h. IsOneMessage-weaker _ _ reply (IsResponse-weaker _ _ _ (λ a e. c.in-Ok.is ∙ ap Ok (sym e))) h) c.respond_by.ensures

pub returns-in-Err : goal.returns-in-Err
returns-in-Err c = IfOk-weaker c.internal_error.result _ _ (λ reply h. IsOneMessage-weaker _ _ reply (λ s m. inr m) h) c.internal_error.ensures
