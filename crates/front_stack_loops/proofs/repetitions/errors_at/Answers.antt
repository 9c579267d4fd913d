use Rattle.std.proofs.Common.{◌≡◌, subst, Some, ◌∷◌, [], slice_get, get_or}
use Rattle.std.proofs.lemmas.Option.{slice_get-get_or}
use Rattle.base_language.specs.Pieces.Saying.{AreErrorsFor}
use Rattle.front_spanned.specs.Nodes.{piece_of}
use Rattle.front_stack_loops.specs.Certain.{complaint_at}
use Rattle.front_stack_loops.proofs.Telling.{told_step}
use Rattle.front_stack_loops.proofs.repetitions.errors_at.Goals as goal

pub loop-place-preserved : goal.loop-place-preserved
loop-place-preserved c =
    let fs = c.args.found.now in
    let i = c.loop-place.place in
    let f = get_or fs i c.index-found-place.result in
    let at : slice_get fs i ≡ Some f = slice_get-get_or fs i c.index-found-place.result c.loop-place-test.true in
    told_step fs i f c.loop-place.errors.items c.push.new.self.items c.in_ok-error.error at c.in_ok-push.ensures.items
    (subst (λ z. AreErrorsFor (complaint_at (piece_of z) ∷ []) (c.in_ok-error.error ∷ [])) c.index-found-place.is c.in_ok-error.ensures.tells) c.loop-place.invariant
