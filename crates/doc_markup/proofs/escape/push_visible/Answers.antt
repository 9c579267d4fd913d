use Rattle.std.proofs.Common.{◌≡◌, ◌++◌, ap, sym, ◌∙◌, map-id, string_bytes}
use Rattle.std.proofs.lemmas.Iterator.{YieldsList-from_chars}
use Rattle.std.proofs.lemmas.Iterator.Consumers.{YieldsList-end}
use Rattle.std.specs.List.{flat_map}
use Rattle.std.specs.Str.{chars}
use Rattle.doc_markup.specs.Escape.{visible_character}
use Rattle.doc_markup.proofs.Escaping.{bytes_more, flat_map_one_more}
use Rattle.doc_markup.proofs.escape.push_visible.Goals as goal

pub loop-character-preserved : goal.loop-character-preserved
loop-character-preserved c =
    bytes_more _ _ _ _ _ _ c.loop-character.invariant c.in_ok-push_visible_character.ensures
    (flat_map_one_more visible_character c.loop-character.yielded c.in-Some.character)

pub returns : goal.returns
returns c =
    let end = YieldsList-end (YieldsList-from_chars c.args.text.now c.utf8.text cc) c.loop-character.yielded _ c.loop-character.yielded_by _ _ c.in-None.is c.next.ensures.steps in
    let all : c.loop-character.yielded ≡ chars c.args.text.now = sym (map-id c.loop-character.yielded) ∙ end.0 in
    c.loop-character.invariant ∙ ap (λ t. string_bytes c.args.page.now ++ flat_map visible_character t) all
