use Rattle.std.proofs.Common.{string_bytes, subst}
use Rattle.std.proofs.lemmas.Result.{IfOk-weaker}
use Rattle.serde_json.specs.Data.{Data}
use Rattle.server_protocol.specs.Messages.{IsMessage}
use Rattle.server_protocol.proofs.messages.result_response.Goals as goal

pub returns : goal.returns
returns c = IfOk-weaker c.message_text.result _ _ (λ s h. let P : Data → Type 0 = λ d. IsMessage d (string_bytes s) in subst P c.in_ok-message.ensures h) c.message_text.ensures
