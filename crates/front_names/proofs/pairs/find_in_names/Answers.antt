use Rattle.std.proofs.Common.{◌≡◌, ◌∙◌, [], ap, map, refl, rules}
use Rattle.base_language.specs.Pieces.Saying.{piece_of}
use Rattle.front_names.specs.NameSets.{is_outside}
use Rattle.front_names.specs.Names.{later_places, places_of, undefined_calls}
use Rattle.front_names.proofs.Places.{filter_pieces, outside_undefined}
use Rattle.front_names.proofs.Told.{three_told}
use Rattle.front_names.proofs.pairs.find_in_names.Goals as goal

pub returns-clause-told : goal.returns-clause-told
returns-clause-told c =
    let definitions = map piece_of c.args.definitions.now in
    let reserved : map piece_of c.deref.result.now ≡ places_of (map (λ name. name.now) c.pest_keywords.result.now) definitions = search rules in
    let again : map piece_of c.deref-2.result.now ≡ later_places [] definitions = search rules in
    let found : c.deref-3.result.now ≡ c.in_ok-undefined.undefined.items = search rules in
    let set = c.later.new.known in
    let undefined : map piece_of c.deref-3.result.now ≡ undefined_calls definitions (map piece_of c.args.calls.now) =
    ap (map piece_of) (found ∙ c.in_ok-undefined.ensures) ∙ filter_pieces (is_outside set) c.args.calls.now ∙ outside_undefined definitions set c.in_ok-again.ensures.known (map piece_of c.args.calls.now) in
    let empty : c.new-found.result.items ≡ [] = search rules in
    three_told _ _ _ _ _ _ _ empty c.in_ok-add_findings.ensures c.in_ok-add_findings-2.ensures c.in_ok-add_findings-3.ensures
    ∙ rw (reserved, c.pest_keywords.ensures, again, undefined) refl
