use Rattle.std.proofs.Common.{◌≡◌, ap, refl, sym, ◌∙◌, encode_utf8_all, map-id}
use Rattle.std.proofs.lemmas.Iterator.{YieldsList-from_chars}
use Rattle.std.proofs.lemmas.Iterator.Consumers.{YieldsList-end}
use Rattle.std.specs.List.{flat_map}
use Rattle.std.specs.Str.{chars}
use Rattle.program_support.proofs.Escaping.{one_more}
use Rattle.program_support.specs.Escapes.{json_character}
use Rattle.program_support.proofs.json.escape_json.Goals as goal

pub loop-character-preserved : goal.loop-character-preserved
loop-character-preserved c =
    one_more json_character _ _ c.loop-character.yielded c.in-Some.character _ c.loop-character.invariant c.in_ok-push_character.ensures refl

pub returns : goal.returns
returns c =
    let end = YieldsList-end (YieldsList-from_chars c.args.json.now c.utf8.json cc) c.loop-character.yielded _ c.loop-character.yielded_by _ _ c.in-None.is c.next.ensures.steps in
    let all : c.loop-character.yielded ≡ chars c.args.json.now = sym (map-id c.loop-character.yielded) ∙ end.0 in
    c.loop-character.invariant ∙ ap (λ t. encode_utf8_all (flat_map json_character t)) all
