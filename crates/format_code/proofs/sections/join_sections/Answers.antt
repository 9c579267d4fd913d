use Rattle.std.proofs.Common.{◌≡◌, ◌∙◌, ◌+◌, ◌*◌, ap, arith, flat_map, length, refl, ◌++◌}
use Rattle.format_code.proofs.Parts.{section_is}
use Rattle.format_code.proofs.sections.join_sections.Goals as goal

pub returns : goal.returns
returns c =
    let start = c.saturating_mul-start.result in
    let begins : start ≡ (length c.args.sections.now + 1) * 4 =
    omega (arith, c.saturating_add.ensures, c.saturating_mul-start.ensures, c.in_ok-places.ensures.fits) in
    let rest = flat_map (λ x. x.now) c.args.sections.now in
    section_is start c.args.sections.now c.in_ok-places.places.items c.in_ok-bytes.bytes.items rest
    c.append.new.items.items begins c.in_ok-places.ensures.places
    (c.in_ok-bytes.ensures.words ∙ c.deref.ensures.value) (c.in_ok-bytes.ensures.size ∙ ap (λ ns. length ns * 4) c.deref.ensures.value)
    refl (c.in_ok-append.ensures ∙ ap (λ bs. bs ++ rest) c.reserve_to_end.ensures)
