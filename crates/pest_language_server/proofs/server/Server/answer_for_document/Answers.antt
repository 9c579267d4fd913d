use Rattle.std.proofs.Common.{inr}
use Rattle.std.proofs.lemmas.Result.{IfOk-weaker}
use Rattle.pest_language_server.proofs.server.Server.answer_for_document.Goals as goal

pub returns-in-Some-clause-answer : goal.returns-in-Some-clause-answer
returns-in-Some-clause-answer c = IfOk-weaker c.answer_in.result _ _ (λ a h. inr (c.in-Some.context, rw c.in-Some.is at c.of_params-context.ensures, h)) c.answer_in.ensures
