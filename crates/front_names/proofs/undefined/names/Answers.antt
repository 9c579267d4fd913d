use Rattle.std.proofs.Common.{◌≡◌, get_or, rules}
use Rattle.base_language.specs.Pieces.Saying.{piece_of}
use Rattle.front_names.proofs.Places.{pieces_left, none_left, name_taken, all_taken}
use Rattle.front_names.proofs.undefined.names.Goals as goal

pub loop-place-preserved : goal.loop-place-preserved
loop-place-preserved c = λ name.
    let x = c.place-item.result in
    let at : x ≡ get_or c.args.places.now c.loop-place.place-index x = search (rules, c.place-item.is) in
    let left = pieces_left c.args.places.now c.loop-place.place-index x at c.loop-place-test.true in
    name_taken _ c.loop-place.names c.insert.new.self c.as_str.result name (piece_of x) _ _ left c.as_str.ensures c.in_ok-insert.ensures.updates (c.loop-place.invariant name)

pub returns : goal.returns
returns c = λ name.
    all_taken _ _ name.now _ (none_left c.args.places.now c.loop-place.place-index c.loop-place-test.false) (c.loop-place.invariant name)
