use Rattle.std.proofs.Common.{◌≡◌, ◌++◌, ap, sym, ◌∙◌, encode_utf8_all, map-id, string_bytes}
use Rattle.std.proofs.lemmas.Iterator.{YieldsList-from_chars}
use Rattle.std.proofs.lemmas.Iterator.Consumers.{YieldsList-end}
use Rattle.std.specs.Str.{chars}
use Rattle.doc_markup.specs.Escape.{escaped, escaped_character}
use Rattle.doc_markup.proofs.Escaping.{page_more, flat_map_one_more}
use Rattle.doc_markup.proofs.escape.push_escaped.Goals as goal

pub loop-character-preserved : goal.loop-character-preserved
loop-character-preserved c =
    page_more _ _ _ _ _ _ c.loop-character.invariant c.in_ok-push_escaped_character.ensures
    (flat_map_one_more escaped_character c.loop-character.yielded c.in-Some.character)

pub returns : goal.returns
returns c =
    let end = YieldsList-end (YieldsList-from_chars c.args.text.now c.utf8.text cc) c.loop-character.yielded _ c.loop-character.yielded_by _ _ c.in-None.is c.next.ensures.steps in
    let all : c.loop-character.yielded ≡ chars c.args.text.now = sym (map-id c.loop-character.yielded) ∙ end.0 in
    c.loop-character.invariant ∙ ap (λ t. string_bytes c.args.page.now ++ encode_utf8_all (escaped t)) all
