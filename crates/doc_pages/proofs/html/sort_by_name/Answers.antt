use Rattle.std.proofs.Common.{◌≡◌, ◌∙◌, ap, arith, refl, subst, ℕ, List, length, map}
use Rattle.std.proofs.lemmas.List.Sorted.{IsPermutation-map}
use Rattle.std.specs.List.{range_with_len}
use Rattle.std.specs.List.Sorted.{IsPermutation}
use Rattle.doc_pages.proofs.Indexing.{number_more}
use Rattle.doc_pages.proofs.html.sort_by_name.Goals as goal

pub loop-number-preserved : goal.loop-number-preserved
loop-number-preserved c =
    ap (map (λ rule. rule.1)) c.in_ok-push.ensures.items
    ∙ number_more c.loop-number.sorted.items _ c.loop-number.number refl c.loop-number.invariant

pub returns : goal.returns
returns c =
    let full : c.loop-number.number ≡ length c.args.names.now = omega (arith, c.loop-number-test.false, c.loop-number.auto.number-end) in
    let P : List ℕ → Type 0 = λ numbers. IsPermutation numbers (map (λ rule. rule.1) c.sort.new.self.items) in
    subst P (c.loop-number.invariant ∙ ap (range_with_len 0) full)
    (IsPermutation-map (λ rule. rule.1) c.loop-number.sorted.items c.sort.new.self.items c.in_ok-sort.ensures.permutation)
