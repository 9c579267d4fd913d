use Rattle.std.proofs.Common.{◌≡◌, refl, ap, sym, ◌∙◌}
use Rattle.base_language.specs.Pieces.Span.{span_text, span_end}
use Rattle.base_language.specs.Pieces.Saying.{piece}
use Rattle.front_spanned.specs.Spanned.{Span}
use Rattle.front_spanned.specs.Nodes.{piece_of}
use Rattle.front_reader.proofs.Signs.{last_place, last_sign}
use Rattle.front_reader.proofs.rules.signs.with_signs.Goals as goal

pub loop-sign-init : goal.loop-sign-init
loop-sign-init c = record { place = c.requires; same_text = refl; reads = refl }

pub span_at-span-requires : goal.span_at-span-requires
span_at-span-requires c =
    let p = last_place c.loop-sign.node _ _ c.in-Some.sign c.in-Some.ensures.items c.loop-sign.invariant.place in
    rw (c.get_input.ensures, c.end.ensures) p.0

pub loop-sign-preserved : goal.loop-sign-preserved
loop-sign-preserved c =
    let n = c.loop-sign.node in
    let p = last_place n _ _ c.in-Some.sign c.in-Some.ensures.items c.loop-sign.invariant.place in
    let f : piece_of c.span_at-span.result ≡ piece (span_text n.span) c.in-Some.sign.start (span_end n.span) =
    rw (c.get_input.ensures, c.end.ensures) at c.span_at-span.ensures in
    let t : span_text c.span_at-span.result ≡ span_text n.span = ap (λ (v : Span). v.text) f in
    let e : span_end c.span_at-span.result ≡ span_end n.span = ap (λ (v : Span). v.end) f in
    let k = f ∙ ap (λ u. piece u c.in-Some.sign.start (span_end n.span)) c.loop-sign.invariant.same_text in
    let g = c.in_ok-expr.ensures (piece_of c.span_at-span.result) in
    record {
      place = rw (t, e) p.1;
      same_text = t ∙ c.loop-sign.invariant.same_text;
      reads = sym (last_sign n (record { expr = c.in_ok-expr.expr; span = c.span_at-span.result }) _ _ c.in-Some.sign c.in-Some.ensures.items k g)
          ∙ c.loop-sign.invariant.reads;
    }
