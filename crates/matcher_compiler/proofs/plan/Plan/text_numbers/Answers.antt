use Rattle.std.proofs.Common.{◌≡◌, ◌++◌, ◌∷◌, [], ap, arith, chars, get_or, map, subst, take}
use Rattle.std.proofs.lemmas.Grind.{common_steps}
use Rattle.std.proofs.lemmas.List.{take_all}
use Rattle.base_ast.specs.Ast.{text_of}
use Rattle.matcher_compiler.specs.Plans.{AreTexts}
use Rattle.matcher_compiler.proofs.Growing.{later_same, later_twice}
use Rattle.matcher_compiler.proofs.Listing.{more_texts, no_texts}
use Rattle.matcher_compiler.proofs.plan.Plan.text_numbers.Goals as goal

pub loop-text-init : goal.loop-text-init
loop-text-init c = record { later = λ p. later_same p c.args.self.now; means = λ p code laid m. no_texts code _ c.new-numbers.ensures.items }

pub loop-text-preserved : goal.loop-text-preserved
loop-text-preserved c =
    let texts = c.args.texts.now.items in
    let i = c.loop-text.text-index in
    let here : get_or texts i c.text-item.result ≡ c.text-item.result = cc in
    let e : c.push.new.self.items ≡ c.loop-text.numbers.items ++ c.in_ok-number.number ∷ [] = grind (arith, common_steps) in
    record {
      later = λ p. later_twice p _ _ _ (c.loop-text.invariant.later p) (c.in_ok-number.ensures.later p);
      means = λ p code laid m.
          let m1 = (c.in_ok-number.ensures.later p).met code laid m in
          more_texts code texts i c.text-item.result c.loop-text.numbers.items c.push.new.self.items c.in_ok-number.number e (omega arith) here
          (c.loop-text.invariant.means p code laid m1) c.as_str.result.now (c.in_ok-number.ensures.means p code laid m) c.as_str.utf8 (ap chars c.as_str.ensures.value);
    }

pub returns-clause-means : goal.returns-clause-means
returns-clause-means c = λ p code laid m.
    let texts = c.args.texts.now.items in
    let e : take c.loop-text.text-index texts ≡ texts = take_all c.loop-text.text-index texts (omega arith) in
    subst (λ ts. AreTexts code c.loop-text.numbers.items (map text_of ts)) e (c.loop-text.invariant.means p code laid m)
