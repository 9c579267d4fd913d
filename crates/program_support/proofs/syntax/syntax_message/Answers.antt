use Rattle.std.proofs.Common.{inl, inr}
use Rattle.std.proofs.lemmas.Result.{IfOk-weaker}
use Rattle.program_support.proofs.syntax.syntax_message.Goals as goal

pub returns-then-is_empty : goal.returns-then-is_empty
returns-then-is_empty c =
    IfOk-weaker c.unexpected_message.result _ _ (λ message told. inl (_, told)) c.unexpected_message.ensures

pub returns : goal.returns
returns c = IfOk-weaker c.expected_message.result _ _ (λ message told. inr (_, _, told)) c.expected_message.ensures
