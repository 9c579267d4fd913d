use Rattle.std.proofs.Common.{◌≡◌, rules, subst}
use Rattle.std.proofs.lemmas.Result.{IfOk-weaker}
use Rattle.server_protocol.specs.Messages.{IsMessage, error_data}
use Rattle.pest_language_server.specs.Replies.{IsErrorAlone}
use Rattle.pest_language_server.proofs.Answering.{IsOneMessage-weaker}
use Rattle.pest_language_server.proofs.replies.refusal.Goals as goal
use Rattle.serde_json.specs.Data.{Data, null}
use Rattle.serde_json.specs.View.{view}
use Rattle.serde_json.specs.declared.value.Value.{Null, the_lemmas}

pub returns : goal.returns
returns c =
    let e : view Null ≡ null = search (rules, the_lemmas) in
    IfOk-weaker c.error_reply.result _ _ (λ reply h. IsOneMessage-weaker _ IsErrorAlone reply (λ s m. (c.args.code, c.args.reason.now, subst (λ (d : Data). IsMessage (error_data d c.args.code c.args.reason.now) s) e m)) h) c.error_reply.ensures
