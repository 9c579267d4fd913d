use Rattle.std.proofs.lemmas.Grind.{merely}
use Rattle.server_protocol.proofs.documents.Document.new.Goals as goal

pub invariant_of-result : goal.invariant_of-result
invariant_of-result c =
    let text = c.as_str-view.ensures.value in record {
      lexed = merely (rw text at c.in_ok-tokens.ensures);
      defined = rw c.deref.ensures.value at c.in_ok-definitions.ensures;
      marked = rw text at c.in_ok-marks.ensures;
    }
