use Rattle.std.proofs.Common.{◌≡◌, ◌∙◌, ◌+◌, ◌<◌, ◌≤◌, suc, [], ap, ap₂, arith, get_or, length, sym}
use Rattle.std.proofs.lemmas.Grind.{common_steps}
use Rattle.matcher_code.specs.Words.{part, word}
use Rattle.matcher_code.proofs.Parts.{part_is, part_none}
use Rattle.matcher_code.proofs.words.part_at.Goals as goal

pub returns-in_default : goal.returns-in_default
returns-in_default g c =
    let places = c.args.places.now in
    let h : length places ≤ c.args.number + 1 = grind (arith, common_steps) in
    sym (part_none places c.args.items.now c.args.number (omega (arith, h)))

pub returns : goal.returns
returns g c =
    let places = c.args.places.now in
    let items = c.args.items.now in
    let n = c.args.number in
    let h : n + 1 < length places = grind (arith, common_steps) in
    let to : c.in-Some.to.now ≡ get_or places (n + 1) [] = grind (arith, common_steps) in
    let from : c.in-Some-get.from.now ≡ get_or places n [] = grind (arith, common_steps) in
    let s : n + 1 ≡ suc n = omega arith in
    c.part.ensures
    ∙ (ap₂ (part items) (c.word.ensures ∙ ap word from) (c.word-2.ensures ∙ ap word (to ∙ ap (λ k. get_or places k []) s))
    ∙ sym (part_is places items n (omega (arith, h))))
