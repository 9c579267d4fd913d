use Rattle.std.proofs.Common.{inl, inr, refl}
use Rattle.std.proofs.lemmas.Result.{IfOk-weaker}
use Rattle.pest_language_server.proofs.Answering.{IsOneMessage-weaker, one_message}
use Rattle.pest_language_server.proofs.replies.respond_by.Goals as goal

pub returns-in-Ok : goal.returns-in-Ok
returns-in-Ok c = one_message _ c.reply_of.result c.in-Ok.body c.reply_of.ensures.body c.reply_of.ensures.exit (inl (c.args.answer, refl, c.in-Ok.ensures))

pub returns-in-Err : goal.returns-in-Err
returns-in-Err c = IfOk-weaker c.internal_error.result _ _ (λ reply h. IsOneMessage-weaker _ _ reply (λ s m. inr m) h) c.internal_error.ensures
