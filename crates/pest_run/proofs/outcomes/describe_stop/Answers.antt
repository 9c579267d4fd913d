use Rattle.std.proofs.Common.{inl, inr}
use Rattle.std.proofs.lemmas.Result.{IfOk-weaker}
use Rattle.pest_run.proofs.outcomes.describe_stop.Goals as goal

pub returns-in-Some : goal.returns-in-Some
returns-in-Some c = IfOk-weaker c.stack_message.result _ _ (λ message e. inr (c.in-Some.user.now, e)) c.stack_message.ensures

pub returns-in-None : goal.returns-in-None
returns-in-None c = IfOk-weaker c.steps_message.result _ _ (λ message e. inl e) c.steps_message.ensures
