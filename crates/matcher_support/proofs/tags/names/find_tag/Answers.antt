use Rattle.std.proofs.Common.{◌∙◌, ap, sym, Some}
use Rattle.std.specs.Str.{chars}
use Rattle.matcher_support.proofs.Reading.{no_tag, tag_found}
use Rattle.matcher_support.proofs.tags.names.find_tag.Goals as goal

pub returns-in-Some : goal.returns-in-Some
returns-in-Some c =
    let h = c.in-Some.ensures.cases in
    tag_found c.args.name.now h.0 h.1 c.utf8.name h.2.0 h.2.1 ∙ ap (λ z. Some (chars z)) (sym h.4)

pub returns-in-None : goal.returns-in-None
returns-in-None c = no_tag c.args.name.now c.utf8.name c.in-None.ensures.cases
