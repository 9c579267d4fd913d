use Rattle.std.proofs.Common.{◌≡◌, sym, subst, take, Some, slice_get, get_or}
use Rattle.std.proofs.lemmas.Option.{slice_get-get_or}
use Rattle.base_language.specs.Pieces.Saying.{IsErrorAt, AreErrorsFor}
use Rattle.front_validator.specs.Reporting.{finding_of, findings_of}
use Rattle.front_validator.proofs.SortedLemmas.{told_step}
use Rattle.front_validator.proofs.reported.errors_of.Goals as goal

pub loop-place-init : goal.loop-place-init
loop-place-init c = subst (λ z. AreErrorsFor (findings_of (take 0 c.args.found.now)) z) (sym c.new-errors.ensures.items) tt

pub loop-place-preserved : goal.loop-place-preserved
loop-place-preserved c =
    let fs = c.args.found.now in
    let i = c.loop-place.place in
    let f = get_or fs i c.index-found-place.result in
    let at : slice_get fs i ≡ Some f = slice_get-get_or fs i c.index-found-place.result c.loop-place-test.true in
    told_step fs i f c.loop-place.errors.items c.push.new.self.items c.in_ok-error.error at c.in_ok-push.ensures.items
    (subst (λ z. IsErrorAt (finding_of z).message (finding_of z).span c.in_ok-error.error) c.index-found-place.is c.in_ok-error.ensures.tells) c.loop-place.invariant
