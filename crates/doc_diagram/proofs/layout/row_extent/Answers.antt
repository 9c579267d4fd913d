use Rattle.std.proofs.Common.{◌≤◌, arith, below_more, get_or, subst, sym}
use Rattle.std.proofs.lemmas.List.{get_or_default}
use Rattle.doc_diagram.specs.Spaces.{box_width}
use Rattle.doc_diagram.proofs.layout.row_extent.Goals as goal

pub loop-place-preserved : goal.loop-place-preserved
loop-place-preserved c = record {
  fits = omega arith;
  room = below_more (λ k. box_width c.args.boxes.now (get_or c.args.items.now k 0) ≤ c.saturating_add-in-loop-place.result)
      c.loop-place.place (λ k l. omega (arith, c.loop-place.invariant.room k l)) (omega arith);
}

pub returns : goal.returns
returns c = λ k d l.
    subst (λ i. box_width c.args.boxes.now i ≤ c.loop-place.whole.width) (sym (get_or_default c.args.items.now k d 0 l))
    (c.loop-place.invariant.room k (omega (arith, l)))
