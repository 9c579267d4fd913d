use Rattle.std.proofs.Common.{string_bytes}
use Rattle.std.proofs.lemmas.Result.{IfOk-weaker}
use Rattle.program_support.proofs.messages.show_next.Goals as goal

pub returns : goal.returns
returns c =
    IfOk-weaker c.format.result _ _
    (λ part written. record { shown = string_bytes c.in_ok-shown.shown; shows = c.in_ok-shown.ensures; whole = written })
    c.format.ensures.ok
