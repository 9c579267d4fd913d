use Rattle.std.proofs.Common.{◌≡◌, ◌≢◌, ◌∙◌, inl, inr, ◌<◌, ◌-◌, ◌%◌, arith, get_or, length, subst, sym}
use Rattle.std.proofs.Math.ListN.{set}
use Rattle.std.proofs.lemmas.Bool.{cases_lt}
use Rattle.std.proofs.lemmas.List.{get_or-replicate, get_or-set_other, get_or-set_same, length-replicate, length-set}
use Rattle.matcher_code.specs.Within.{IsAround, no_closings}
use Rattle.matcher_code.proofs.CommentPositions.{around_end}
use Rattle.matcher_code.proofs.comments.closings_from.Goals as goal

pub loop-at-init : goal.loop-at-init
loop-at-init c = record {
  above = c.requires.inside;
  long = length-replicate 256 no_closings;
  known = λ k low high within.
      let b : k % 256 < 256 = omega arith in
      subst (λ z. IsAround c.args.opening.now c.args.closing.now c.args.text.now c.args.number k z) (sym (get_or-replicate 256 (k % 256) no_closings no_closings b))
      (around_end c.args.opening.now c.args.closing.now c.args.text.now c.args.number k low);
}

pub loop-at-preserved : goal.loop-at-preserved
loop-at-preserved c =
    let at = c.loop-at.at - 1 in
    let behind = c.loop-at.behind in
    let r = c.closings_at.result in
    let test = c.loop-at-test.true in
    record {
      above = omega (arith, test);
      long = length-set behind (at % 256) r ∙ c.loop-at.invariant.long;
      known = λ k low high within. elim (cases_lt at k) [
        | inl h ↦
            let other : k % 256 ≢ at % 256 = λ e. omega (arith, e, h, high) in
            subst (λ z. IsAround c.args.opening.now c.args.closing.now c.args.text.now c.args.number k z) (sym (get_or-set_other behind (at % 256) (k % 256) r no_closings other))
            (c.loop-at.invariant.known k (omega (arith, h, test)) (omega (arith, high, test)) within)
        | inr h ↦
            let e : at ≡ k = omega (arith, h, low) in
            let b : at % 256 < length behind = omega (arith, c.loop-at.invariant.long) in
            subst (λ j. IsAround c.args.opening.now c.args.closing.now c.args.text.now c.args.number j (get_or (set behind (at % 256) r) (j % 256) no_closings)) e
            (subst (λ z. IsAround c.args.opening.now c.args.closing.now c.args.text.now c.args.number at z) (sym (get_or-set_same behind (at % 256) r no_closings b)) c.closings_at.ensures)
      ];
    }

pub returns : goal.returns
returns c =
    let test = c.loop-at-test.false in
    c.loop-at.invariant.known c.args.from (omega (arith, test)) (omega (arith, c.loop-at.invariant.above)) c.requires.inside
