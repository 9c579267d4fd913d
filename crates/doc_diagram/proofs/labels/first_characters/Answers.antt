use Rattle.std.proofs.Common.{◌≡◌, ◌∷◌, ◌++◌, [], ap, sym, ◌∙◌, encode_utf8_all, map-id, string_bytes, take}
use Rattle.std.proofs.Math.Utf8.{encode}
use Rattle.std.proofs.lemmas.Iterator.{YieldsList-from_chars, YieldsList-from_take}
use Rattle.std.proofs.lemmas.Iterator.Consumers.{YieldsList-end}
use Rattle.std.proofs.lemmas.List.{append-nil}
use Rattle.std.proofs.lemmas.Str.{encodes-append}
use Rattle.std.specs.Str.{chars}
use Rattle.doc_diagram.proofs.labels.first_characters.Goals as goal

pub loop-character-preserved : goal.loop-character-preserved
loop-character-preserved c =
    let read = c.loop-character.yielded in
    let next = c.in-Some.character in
    c.in_ok-push.ensures.bytes ∙ ap (λ t. t ++ encode next) c.loop-character.invariant
    ∙ ap (λ t. encode_utf8_all read ++ t) (sym (append-nil (encode next))) ∙ sym (encodes-append read (next ∷ []))

pub returns : goal.returns
returns c =
    let given = YieldsList-from_take 40 (YieldsList-from_chars c.args.text.now c.utf8.text cc) cc in
    let end = YieldsList-end given c.loop-character.yielded _ c.loop-character.yielded_by _ _ c.in-None.is c.next.ensures.steps in
    let all : c.loop-character.yielded ≡ take 40 (chars c.args.text.now) = sym (map-id c.loop-character.yielded) ∙ end.0 in
    c.loop-character.invariant ∙ ap encode_utf8_all all
