use Rattle.std.proofs.Common.{◌≡◌, ◌++◌, ap, refl, sym, ◌∙◌, encode_utf8_all, map-id, string_bytes}
use Rattle.std.proofs.lemmas.Iterator.Consumers.{YieldsList-end}
use Rattle.std.proofs.lemmas.List.{append-nil}
use Rattle.std.proofs.Math.Utf8.{encode}
use Rattle.std.specs.Char.Escape.{escape_unicode}
use Rattle.std.specs.Char.Iter.{escape_rest}
use Rattle.program_support.proofs.Escaping.{escape_yields, text_more}
use Rattle.program_support.proofs.escape.push_escape.Goals as goal

pub loop-sign-preserved : goal.loop-sign-preserved
loop-sign-preserved c =
    text_more _ _ _ c.loop-sign.yielded _ _ c.loop-sign.invariant
    (c.in_ok-push.ensures.bytes ∙ ap (λ t. string_bytes c.loop-sign.text ++ t) (sym (append-nil (encode c.in-Some.sign))))
    refl

pub returns : goal.returns
returns c =
    let end = YieldsList-end (escape_yields c.into_iter-sign-iterator.result) c.loop-sign.yielded _ c.loop-sign.yielded_by _ _ c.in-None.is c.next.ensures.steps in
    let rest : escape_rest c.into_iter-sign-iterator.result ≡ escape_unicode c.args.character = cc in
    let all : c.loop-sign.yielded ≡ escape_unicode c.args.character = sym (map-id c.loop-sign.yielded) ∙ end.0 ∙ rest in
    c.loop-sign.invariant ∙ ap (λ t. string_bytes c.args.text.now ++ encode_utf8_all t) all
