use Rattle.std.proofs.Common.{◌≡◌, ◌==◌, ◌∙◌, ◌+◌, ◌≤◌, ◌∷◌, ◌++◌, [], ap, append-nil, arith, drop, inr, length, map, subst, sym}
use Rattle.std.proofs.lemmas.Iterator.Consumers.{YieldsList-end, YieldsList-turn}
use Rattle.std.proofs.lemmas.Iterator.Splits.{YieldsList-from_str_split}
use Rattle.std.proofs.lemmas.List.{drop_all, drop_more, length_push}
use Rattle.std.specs.List.{slice_split}
use Rattle.lint_findings.specs.Fragments.{fragment_of, placed_from, trimmed}
use Rattle.lint_findings.proofs.Placing.{Ends, long-split, more_whole, next_ends, next_placed, part_fits}
use Rattle.lint_findings.proofs.fragments.Fragment.split.Goals as goal

pub loop-part-init : goal.loop-part-init
loop-part-init c = record {
  ends = inr (omega (arith, long-split (λ b. b == c.args.separator) c.args.self.text.now));
  whole = ap (λ items. map fragment_of items ++ map trimmed (placed_from c.args.self.start (slice_split (λ b. b == c.args.separator) c.args.self.text.now))) c.new-parts.ensures.items;
}

pub trimmed-requires : goal.trimmed-requires
trimmed-requires c =
    let all = slice_split (λ b. b == c.args.separator) c.args.self.text.now in
    let n = length c.loop-part.yielded in
    let t = YieldsList-turn (YieldsList-from_str_split c.args.separator c.args.self.text.now c.requires (cc) (cc) (cc)) c.loop-part.yielded _ c.loop-part.yielded_by _ _ c.in-Some.part c.in-Some.is c.next.ensures.steps in
    let e : drop n all ≡ c.in-Some.part.now ∷ drop (n + 1) all = drop_more all n c.in-Some.part.now t.0 ∙ ap (λ p. p ∷ drop (n + 1) all) (sym t.1) in
    let fits = part_fits c.loop-part.at (c.args.self.start + length c.args.self.text.now) c.in-Some.part.now (drop (n + 1) all) (drop n all) e c.loop-part.invariant.ends in
    omega arith

pub loop-part-preserved : goal.loop-part-preserved
loop-part-preserved c =
    let all = slice_split (λ b. b == c.args.separator) c.args.self.text.now in
    let n = length c.loop-part.yielded in
    let end = c.args.self.start + length c.args.self.text.now in
    let t = YieldsList-turn (YieldsList-from_str_split c.args.separator c.args.self.text.now c.requires (cc) (cc) (cc)) c.loop-part.yielded _ c.loop-part.yielded_by _ _ c.in-Some.part c.in-Some.is c.next.ensures.steps in
    let e : drop n all ≡ c.in-Some.part.now ∷ drop (n + 1) all = drop_more all n c.in-Some.part.now t.0 ∙ ap (λ p. p ∷ drop (n + 1) all) (sym t.1) in
    let next : c.loop-part.at + length c.in-Some.part.now + 1 ≤ end → c.saturating_add-at.result ≡ c.loop-part.at + length c.in-Some.part.now + 1 = λ h. omega arith in
    let m = length_push c.loop-part.yielded c.in-Some.part in
    record {
      ends = subst (λ k. Ends c.saturating_add-at.result (drop k all) end) (sym m)
          (next_ends c.loop-part.at c.saturating_add-at.result end c.in-Some.part.now (drop (n + 1) all) (drop n all) e c.loop-part.invariant.ends next);
      whole = subst (λ k. map fragment_of c.push_fragment.new.fragments.items ++ map trimmed (placed_from c.saturating_add-at.result (drop k all)) ≡ map trimmed (placed_from c.args.self.start all)) (sym m)
          (more_whole c.loop-part.parts.items c.push_fragment.new.fragments.items c.trimmed.result c.loop-part.at c.saturating_add-at.result c.in-Some.part.now (drop (n + 1) all) (drop n all) _ c.in_ok-push_fragment.ensures c.trimmed.ensures
          (next_placed c.loop-part.at c.saturating_add-at.result end c.in-Some.part.now (drop (n + 1) all) (drop n all) e c.loop-part.invariant.ends next) c.loop-part.invariant.whole);
    }

pub returns : goal.returns
returns c =
    let all = slice_split (λ b. b == c.args.separator) c.args.self.text.now in
    let t = YieldsList-end (YieldsList-from_str_split c.args.separator c.args.self.text.now c.requires (cc) (cc) (cc)) c.loop-part.yielded _ c.loop-part.yielded_by _ _ c.in-None.is c.next.ensures.steps in
    let none : drop (length c.loop-part.yielded) all ≡ [] = drop_all (length c.loop-part.yielded) all (omega (arith, t.1)) in
    sym (append-nil (map fragment_of c.loop-part.parts.items))
    ∙ ap (λ left. map fragment_of c.loop-part.parts.items ++ map trimmed (placed_from c.loop-part.at left)) (sym none)
    ∙ c.loop-part.invariant.whole
