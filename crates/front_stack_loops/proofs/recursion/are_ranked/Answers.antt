use Rattle.std.proofs.Common.{◌≡◌, ◌<◌, Some, inl, inr, sym, subst, refl, arith, rules, length, slice_get}
use Rattle.std.proofs.lemmas.Option.{slice_get_read, slice_get_within}
use Rattle.front_stack_loops.specs.Leading.{IsRanked}
use Rattle.front_stack_loops.proofs.RankLemmas.{last_or_before}
use Rattle.front_analysis.proofs.Resolved.{same_item}
use Rattle.front_stack_loops.proofs.recursion.are_ranked.Goals as goal

pub loop-place-preserved : goal.loop-place-preserved
loop-place-preserved c = λ i n h at.
    let ns = c.args.nodes.now in
    let place = c.loop-place.place in
    let m = c.index-nodes-place.result in
    let less : place < length ns = search rules in
    let here : slice_get ns place ≡ Some m = slice_get_read ns (length ns) place m refl less c.index-nodes-place.is in
    elim (last_or_before i place h) [
      | inl a ↦ c.loop-place.invariant i n a at
      | inr a ↦ subst (λ j. IsRanked c.args.roots.now c.args.recursive.now c.args.ranks.now j n) (sym a)
          (subst (λ k. IsRanked c.args.roots.now c.args.recursive.now c.args.ranks.now place k) (same_item (slice_get ns place) m n here (subst (λ j. slice_get ns j ≡ Some n) a at)) (c.is_ranked.ensures c.if-not-is_ranked.false))
    ]

pub returns : goal.returns
returns c = λ e i n at.
    let w = slice_get_within c.args.nodes.now i n at in
    c.loop-place.invariant i n (omega arith) at
