use Rattle.std.proofs.Common.{◌+◌, ◌∙◌, false, length, drop, slice_index, ap, sym, subst}
use Rattle.std.proofs.Math.ListN.{length-set}
use Rattle.front_validator.specs.Flags.{AreOnlySet}
use Rattle.front_validator.proofs.FlagLemmas.{left_less, left_past}
use Rattle.front_validator.proofs.flags.unset.Goals as goal
use Rattle.front_validator.proofs.flags.unset.Goals.{then-place-all, else-place-all}

pub loop-place-preserved : goal.loop-place-preserved
loop-place-preserved c =
    let noted = c.args.noted.now in
    let flags = c.loop-place.all in
    let j = c.loop-place.place-index in
    let inv = c.loop-place.invariant in
    let l = c.loop-place-test.true in
    elim c.if-place-all.branch [
      | then-place-all w ↦ record {
        known = subst (λ z. AreOnlySet (drop (j + 1) noted) z) (sym w.all-is) (left_less noted j flags l inv.known);
        long = ap (λ z. length z) w.all-is ∙ (length-set flags (slice_index noted j) false ∙ inv.long);
      }
      | else-place-all w ↦ record {
        known = subst (λ z. AreOnlySet (drop (j + 1) noted) z) (sym w.all-is) (left_past noted j flags l w.if-place-all.false inv.known);
        long = ap (λ z. length z) w.all-is ∙ inv.long;
      }
    ]
