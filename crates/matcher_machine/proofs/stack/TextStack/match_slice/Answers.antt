use Rattle.matcher_code.specs.Bytecodes.{lists_in}
use Rattle.std.proofs.Common.{◌≡◌, ◌∙◌, sym, ap, ap₂, map, length, drop, take, reverse, ◌-◌, Some, w32, FitsSigned, vec_len, rules}
use Rattle.std.proofs.lemmas.List.{length-map}
use Rattle.std.proofs.lemmas.Int.{to_z-of_z}
use Rattle.base_language.specs.Language.Matching.{concatenated, end_place, place}
use Rattle.matcher_machine.specs.Stacks.{bytes_of, length_if, texts_in}
use Rattle.matcher_machine.proofs.Stacking.{slice_found}
use Rattle.matcher_machine.proofs.stack.TextStack.match_slice.Goals as goal

pub returns-in-Some-end_of : goal.returns-in-Some-end_of
returns-in-Some-end_of c =
    let code = lists_in c.args.code.now in
    let text = c.args.text.now in
    let v = c.in_ok-texts.texts in
    let f = bytes_of code text in
    let ts = texts_in code text c.args.self.now in
    let n : length ts ≡ vec_len v = sym (ap length (c.in_ok-texts.ensures code text)) ∙ (length-map v.items f ∙ (sym (ap length c.deref.ensures.value) ∙ c.deref.ensures.len)) in
    let k = c.in-Some.start in
    let l = c.in-Some-end_of.end in
    let fits : FitsSigned w32 c.args.from = search rules in
    let i : Some k ≡ place (vec_len v) c.args.from =
    c.in-Some.ensures ∙ ap₂ place c.len.ensures (to_z-of_z w32 c.args.from fits) in
    let j : Some l ≡ end_place (vec_len v) c.args.to = c.in-Some-end_of.ensures ∙ ap (λ m. end_place m c.args.to) c.len-in-Some.ensures in
    record {
      value = c.match_between.ensures.value
          ∙ (ap (λ xs. length_if (concatenated (take (l - k) (drop k (reverse (map f xs))))) (drop c.args.at text)) c.deref.ensures.value
          ∙ (ap (λ us. length_if (concatenated (take (l - k) (drop k (reverse us)))) (drop c.args.at text)) (c.in_ok-texts.ensures code text)
          ∙ slice_found ts (vec_len v) c.args.from c.args.to k l (drop c.args.at text) n i j));
      within = c.match_between.ensures.within;
    }
