use Rattle.std.proofs.Common.{◌∙◌, ap}
use Rattle.std.specs.Prelude.{chars}
use Rattle.front_reader.specs.Reading.{behind_first}
use Rattle.front_reader.proofs.Signs.{name_behind}
use Rattle.front_reader.proofs.rules.signs.tag_name.Goals as goal

pub returns-in-Some : goal.returns-in-Some
returns-in-Some c =
    name_behind _ _ _ _ _ c.text_of.utf8 c.chars-characters.ensures.rest c.in-Some.ensures.steps.0 c.as_str.ensures
    ∙ ap (λ bs. behind_first (chars bs)) c.text_of.ensures
