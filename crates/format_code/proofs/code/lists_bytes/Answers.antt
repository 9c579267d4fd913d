use Rattle.std.proofs.Common.{◌≡◌, ◌∙◌, ◌∷◌, ap, ap₂, flat_map, map}
use Rattle.matcher_code.specs.Words.{parts_in, words_in}
use Rattle.format_code.specs.Sections.{ends_from}
use Rattle.format_code.proofs.Parts.{parts_are}
use Rattle.format_code.proofs.code.lists_bytes.Goals as goal

pub returns : goal.returns
returns c =
    let slices = c.in_ok-slices.slices.items in
    let places : words_in c.in_ok-words_bytes.field-0.items ≡ 0 ∷ ends_from 0 (map (λ s. s.now) slices) =
    c.in_ok-words_bytes.ensures.words ∙ (c.deref-3.ensures.value ∙ (c.in_ok-places.ensures.places
    ∙ ap (λ ss. 0 ∷ ends_from 0 (map (λ s. s.now) ss)) c.deref.ensures.value)) in
    let items : words_in c.in_ok-words_bytes-2.field-0.items ≡ flat_map (λ s. s.now) slices =
    c.in_ok-words_bytes-2.ensures.words ∙ (c.deref-4.ensures.value ∙ (c.in_ok-items.ensures
    ∙ ap (flat_map (λ s. s.now)) c.deref-2.ensures.value)) in
    ap₂ parts_in places items ∙ (parts_are slices ∙ c.in_ok-slices.ensures)
