use Rattle.matcher_code.specs.Lists.{is_covered}
use Rattle.std.proofs.Common.{◌≡◌, ◌+◌, arith, get_or, suc, true, ◌∙◌, ap, ◌∷◌, map, take}
use Rattle.std.proofs.lemmas.Grind.{common_steps}
use Rattle.base_ast.specs.Ast.{text_of}
use Rattle.base_language.specs.Language.Matching.{any_begins}
use Rattle.matcher_sets.proofs.Searching.{one_text_more}
use Rattle.matcher_sets.proofs.texts.single_characters.Goals as goal

pub loop-text-preserved : goal.loop-text-preserved
loop-text-preserved c = λ x u l.
    let texts = c.args.texts.now.items in
    let i = c.loop-text.text-index in
    let e : i + 1 ≡ suc i = omega arith in
    let here : get_or texts i c.text-item.result ≡ c.text-item.result = cc in
    let single : c.is_single.result ≡ true = grind (arith, common_steps) in
    ap (λ k. any_begins (map text_of (take k texts)) (x ∷ u)) e
    ∙ one_text_more texts i c.text-item.result x u (is_covered c.loop-text.ranges.items x) (is_covered c.push_first.new.ranges.items x) (omega arith) here
    (rw c.as_str.ensures.value at (c.is_single.ensures single)) (c.loop-text.invariant x u l) (rw c.as_str-in-loop-text.ensures.value at (c.in_ok-push_first.ensures x l))
