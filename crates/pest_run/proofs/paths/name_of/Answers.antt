use Rattle.std.proofs.Common.{◌∙◌, ap, encode_utf8_all, sym}
use Rattle.std.proofs.lemmas.Str.{encodes-chars}
use Rattle.pest_run.proofs.paths.name_of.Goals as goal

pub returns : goal.returns
returns c = sym (ap encode_utf8_all (sym c.text_name.ensures) ∙ encodes-chars c.text_name.result.now c.text_name.utf8)
