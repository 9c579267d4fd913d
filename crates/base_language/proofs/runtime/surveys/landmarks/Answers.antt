use Rattle.std.proofs.Common.{⊎_elim, List, sym, subst, arith}
use Rattle.base_language.specs.declared.runtime.surveys.Landmark.{Landmark}
use Rattle.base_language.specs.Pieces.Landmarks.{AreLandmarks}
use Rattle.base_language.proofs.Surveys.{start_is_landmark, order, landmarks_more, one_landmark}
use Rattle.base_language.proofs.runtime.surveys.landmarks.Goals as goal

pub loop-count-init : goal.loop-count-init
loop-count-init c =
    let first = start_is_landmark c.args.text.now c.utf8.text in
    record {
      landmark = first;
      before = omega arith;
      landmarks = let P : List Landmark → Type 0 = λ l. AreLandmarks c.args.text.now l in subst P (sym c.in_ok-landmarks.ensures.items) (one_landmark _ _ first);
    }

pub move_to-landmark-requires-clause-behind : goal.move_to-landmark-requires-clause-behind
move_to-landmark-requires-clause-behind c =
    ⊎_elim (λ le. le) (λ lt. absurd (c.floor_char_boundary-place.ensures.nearest c.loop-count.landmark.place lt (omega (arith, c.loop-count.invariant.before)) c.loop-count.invariant.landmark.between))
    (order c.loop-count.landmark.place c.floor_char_boundary-place.result)

pub loop-count-preserved : goal.loop-count-preserved
loop-count-preserved c = record {
  landmark = c.move_to-landmark.ensures.landmark;
  before = omega (arith, c.move_to-landmark.ensures.place, c.floor_char_boundary-place.ensures.bound);
  landmarks = let P : List Landmark → Type 0 = λ l. AreLandmarks c.args.text.now l in subst P (sym c.in_ok-push.ensures.items) (landmarks_more _ _ _ c.loop-count.invariant.landmarks c.move_to-landmark.ensures.landmark);
}
