use Rattle.std.proofs.Common.{◌∙◌, ◌++◌, ap₂, codes, string_bytes}
use Rattle.std.proofs.lemmas.Result.{IfOk-weaker}
use Rattle.pest_doc.proofs.messages.show_error.Goals as goal

pub returns : goal.returns
returns c =
    let placed = string_bytes c.in_ok-placed.placed in
    IfOk-weaker c.format.result _ _
    (λ part written. record {
      placed = placed;
      at_place = c.in_ok-placed.ensures;
      whole = written ∙ ap₂ (λ what help. codes "error: " ++ (what ++ (codes "\n" ++ (placed ++ help)))) c.as_str-what.ensures.value c.in_ok-help.ensures;
    })
    c.format.ensures.ok
