use Rattle.std.proofs.Common.{◌≡◌, ◌∙◌, ap, map, rules}
use Rattle.base_language.specs.Pieces.Saying.{piece_of}
use Rattle.front_names.specs.NameSets.{is_outside}
use Rattle.front_names.proofs.Places.{filter_pieces, outside_undefined}
use Rattle.front_names.proofs.undefined.validate_undefined.Goals as goal

pub returns-clause-told : goal.returns-clause-told
returns-clause-told c =
    let set = c.in_ok-defined.defined in
    let places = map piece_of c.args.definitions.now.items in
    let definitions : c.deref.result.now ≡ c.args.definitions.now.items = search rules in
    let calls : c.deref-2.result.now ≡ c.args.called.now.items = search rules in
    let found : c.deref-3.result.now ≡ c.in_ok-undefined.undefined.items = search rules in
    let e = rw calls at (ap (map piece_of) c.in_ok-undefined.ensures ∙ filter_pieces (is_outside set) c.deref-2.result.now) in
    let has = rw definitions at c.in_ok-defined.ensures in
    rw (found, e, outside_undefined places set has (map piece_of c.args.called.now.items)) at c.errors.ensures.told
