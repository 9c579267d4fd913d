use Rattle.std.proofs.lemmas.Result.{IfOk-weaker}
use Rattle.pest_fmt.proofs.messages.error_message.Goals as goal

pub returns : goal.returns
returns c =
    IfOk-weaker c.format.result _ _
    (λ part written. record {
      told = _;
      placed = _;
      tells = c.in_ok-told.ensures;
      at_place = c.in_ok-placed.ensures;
      whole = written;
    })
    c.format.ensures.ok
