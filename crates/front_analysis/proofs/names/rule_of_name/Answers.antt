use Rattle.std.proofs.Common.{◌∙◌, ap, string_bytes}
use Rattle.std.specs.HashMap.{get_by_text}
use Rattle.std.proofs.lemmas.Str.{IsUtf8-string_bytes}
use Rattle.front_analysis.proofs.names.rule_of_name.Goals as goal

pub returns : goal.returns
returns c = λ rs known. c.place_of.ensures ∙ (ap (λ n. get_by_text c.args.names.now.places n) c.as_str.ensures.value ∙ known (string_bytes c.args.name.now) (IsUtf8-string_bytes c.args.name.now))
