use Rattle.std.proofs.Common.{◌≡◌, ◌∙◌, ap, refl, sym, subst, length, arith, ◌+◌, ◌<◌, true}
use Rattle.std.proofs.lemmas.Str.{IsCharBoundary-start}
use Rattle.server_protocol.specs.Positions.{IsAtMost, IsPlace, position_at}
use Rattle.server_protocol.specs.declared.positions.Position.{Position}
use Rattle.server_protocol.proofs.Counting.{IsLastBefore, begin_search, end_early, end_passed, end_taken, pass_place, take_place}
use Rattle.server_protocol.proofs.positions.offset_of.Goals as goal
use Rattle.server_protocol.proofs.positions.offset_of.Goals.{then-is_at_most+then-is_place, else-is_at_most, else-is_at_most-via-then-is_at_most+else-is_place, else-is_at_most-via-else-is_at_most}

pub loop-offset-init : goal.loop-offset-init
loop-offset-init c = record {
  here = refl;
  last = begin_search c.args.encoding c.args.text.now c.args.position (IsCharBoundary-start c.args.text.now c.utf8.text);
}

pub loop-offset-preserved : goal.loop-offset-preserved
loop-offset-preserved c =
    let text = c.args.text.now in
    let k = c.loop-offset.offset in
    let here = c.loop-offset.invariant.here in
    record {
      here = c.next_position-here.ensures ∙ ap (λ t. position_at c.args.encoding t (k + 1)) c.as_bytes-bytes.ensures.value;
      last = elim c.if-is_at_most.branch [
        | then-is_at_most+then-is_place w ↦
            let reached : IsAtMost c.loop-offset.here c.args.position = c.is_at_most.ensures.0 w.if-is_at_most.true in
            let place : IsPlace text k = w.is_place.ensures.0 w.if-is_place.true in
            rw w.last-is (take_place c.args.encoding text c.args.position k place (subst (λ q. IsAtMost q c.args.position) here reached))
        | else-is_at_most w ↦
            rw w.last-is (pass_place c.args.encoding text c.args.position k _ c.loop-offset.invariant.last
            (elim w.else-is_at_most.branch [
              | else-is_at_most-via-then-is_at_most+else-is_place w' ↦ λ h i. let t : w'.is_place.result ≡ true = w'.is_place.ensures.1 h in absurd cc
              | else-is_at_most-via-else-is_at_most w' ↦ λ h i. let at_most : IsAtMost c.loop-offset.here c.args.position = subst (λ q. IsAtMost q c.args.position) (sym here) i in let t : c.is_at_most.result ≡ true = c.is_at_most.ensures.1 at_most in absurd cc
            ]))
      ];
    }

pub returns-then-here-position : goal.returns-then-here-position
returns-then-here-position c =
    let past : c.args.position.line < c.loop-offset.here.line = omega arith in
    end_early c.args.encoding c.args.text.now c.args.position c.loop-offset.offset c.loop-offset.last c.loop-offset.invariant.last
    (subst (λ (q : Position). c.args.position.line < q.line) c.loop-offset.invariant.here past)

pub returns-then-is_at_most-2 : goal.returns-then-is_at_most-2
returns-then-is_at_most-2 c =
    let text = c.args.text.now in
    let same : c.as_bytes-bytes.result.now ≡ text = c.as_bytes-bytes.ensures.value in
    let at_end : c.loop-offset.offset ≡ length text = omega (arith, ap length same) in
    let reached : IsAtMost c.loop-offset.here c.args.position = c.is_at_most-2.ensures.0 c.if-is_at_most-2.true in
    rw same (end_taken c.args.encoding text c.args.position (subst (λ q. IsAtMost q c.args.position) (c.loop-offset.invariant.here ∙ ap (position_at c.args.encoding text) at_end) reached))

pub returns-else-is_at_most-2 : goal.returns-else-is_at_most-2
returns-else-is_at_most-2 c =
    let text = c.args.text.now in
    let at_end : c.loop-offset.offset ≡ length text = omega (arith, ap length c.as_bytes-bytes.ensures.value) in
    let here : c.loop-offset.here ≡ position_at c.args.encoding text (length text) = c.loop-offset.invariant.here ∙ ap (position_at c.args.encoding text) at_end in
    end_passed c.args.encoding text c.args.position c.loop-offset.last (subst (λ k. IsLastBefore c.args.encoding text c.args.position k c.loop-offset.last) at_end c.loop-offset.invariant.last)
    (λ h. let reached : IsAtMost c.loop-offset.here c.args.position = subst (λ q. IsAtMost q c.args.position) (sym here) h in let t : c.is_at_most-2.result ≡ true = c.is_at_most-2.ensures.1 reached in absurd cc)
