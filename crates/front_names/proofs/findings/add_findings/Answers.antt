use Rattle.std.proofs.Common.{◌≡◌, ◌∙◌, get_or, rules, sym}
use Rattle.front_names.proofs.Places.{none_left, pieces_left}
use Rattle.front_names.proofs.Told.{add_told, nothing_left}
use Rattle.front_names.proofs.findings.add_findings.Goals as goal

pub loop-place-preserved : goal.loop-place-preserved
loop-place-preserved c =
    let x = c.place-item.result in
    let at : x ≡ get_or c.args.places.now c.loop-place.place-index x = search (rules, c.place-item.is) in
    let left = pieces_left c.args.places.now c.loop-place.place-index x at c.loop-place-test.true in
    rw c.in_ok-push.ensures.items (add_told c.args.problem _ c.loop-place.found.items x _ _ left c.loop-place.invariant)

pub returns : goal.returns
returns c =
    sym (c.loop-place.invariant ∙ nothing_left c.args.problem c.loop-place.found.items _ (none_left c.args.places.now c.loop-place.place-index c.loop-place-test.false))
