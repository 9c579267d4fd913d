use Rattle.std.proofs.lemmas.Result.{IfOk-weaker}
use Rattle.pest_language_server.proofs.Phases.{asked_by}
use Rattle.pest_language_server.proofs.Answering.{IsOneMessage-weaker, IsResponse-weaker, holds_of}
use Rattle.pest_language_server.proofs.server.Server.handle_request.Goals as goal

pub returns : goal.returns
returns c = IfOk-weaker c.respond.result _ _ (λ reply h. record {
  phase = c.answer-outcome.ensures.phase;
  documents = c.answer-outcome.ensures.documents;
  message = IsOneMessage-weaker _ _ reply (IsResponse-weaker _ _ _ (λ a e. asked_by c.args.self.now c.args.method.now _ _ a c.params_of-params.ensures (holds_of _ c.answer-outcome.result a c.answer-outcome.ensures.answer e))) h;
}) c.respond.ensures
