use Rattle.std.proofs.Common.{◌≡◌, [], append-nil, get_or, map, drop, rules}
use Rattle.base_language.specs.Pieces.Saying.{AreErrorsFor, piece_of}
use Rattle.front_names.specs.Names.{complaints}
use Rattle.front_names.proofs.Places.{none_left, pieces_left, told_more}
use Rattle.front_names.proofs.said.errors.Goals as goal

pub loop-place-preserved : goal.loop-place-preserved
loop-place-preserved c = λ more t.
    let x = c.place-item.result in
    let at : x ≡ get_or c.args.places.now c.loop-place.place-index x = search (rules, c.place-item.is) in
    let left = pieces_left c.args.places.now c.loop-place.place-index x at c.loop-place-test.true in
    rw c.in_ok-push.ensures.items (told_more c.args.problem _ _ _ (piece_of x) c.loop-place.errors.items c.in_ok-error.error left c.in_ok-error.ensures.says c.loop-place.invariant more t)

pub returns-clause-told : goal.returns-clause-told
returns-clause-told c =
    let none : map piece_of (drop c.loop-place.place-index c.args.places.now) ≡ [] = none_left c.args.places.now c.loop-place.place-index c.loop-place-test.false in
    let t : AreErrorsFor (complaints c.args.problem (map piece_of (drop c.loop-place.place-index c.args.places.now))) [] = rw none tt in
    rw append-nil at (c.loop-place.invariant [] t)
