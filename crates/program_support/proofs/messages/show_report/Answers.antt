use Rattle.std.proofs.Common.{string_bytes}
use Rattle.std.proofs.lemmas.Result.{IfOk-weaker}
use Rattle.program_support.proofs.messages.show_report.Goals as goal

pub returns : goal.returns
returns c =
    IfOk-weaker c.format.result _ _
    (λ report written. record { parts = string_bytes c.in_ok-parts.parts; each = c.in_ok-parts.ensures; whole = written })
    c.format.ensures.ok
