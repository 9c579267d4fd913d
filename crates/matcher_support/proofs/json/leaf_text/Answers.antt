use Rattle.std.proofs.Common.{ap, sym, ◌∙◌}
use Rattle.std.proofs.lemmas.Result.{IfOk-weaker}
use Rattle.std.proofs.lemmas.Str.{encodes-chars}
use Rattle.matcher_support.specs.Values.{leaf_data}
use Rattle.matcher_support.proofs.json.leaf_text.Goals as goal
use Rattle.serde_json.specs.Written.{compact_text, has_float}

pub returns : goal.returns
returns c =
    let e = c.in_ok-value.ensures in
    let f = ap (λ r. leaf_data r c.args.from c.args.to c.args.part.now) (sym (encodes-chars c.args.rule.now c.utf8.rule)) in
    IfOk-weaker c.to_string.result _ _ (λ s h. h (ap has_float e) ∙ ap compact_text (e ∙ f)) c.to_string.ensures.text
