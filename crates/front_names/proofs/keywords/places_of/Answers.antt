use Rattle.std.proofs.Common.{◌≡◌, ◌∙◌, IfOk, map, ap, filter, rules}
use Rattle.std.proofs.lemmas.Result.{IfOk-weaker}
use Rattle.base_language.specs.Language.Builtins.{is_one_of}
use Rattle.base_language.specs.Pieces.Saying.{piece_of, written}
use Rattle.front_names.proofs.Places.{filter_pieces}
use Rattle.front_names.proofs.keywords.places_of.Goals as goal

pub returns : goal.returns
returns c =
    let names = map (λ n. n.now) c.args.names.now in
    let found : IfOk c.collect.result (λ v. v.items ≡ filter (λ x. is_one_of names (written (piece_of x))) c.args.places.now) = search rules in
    IfOk-weaker c.collect.result (λ v. v.items ≡ filter (λ x. is_one_of names (written (piece_of x))) c.args.places.now) _
    (λ v e. ap (map piece_of) e ∙ filter_pieces (λ place. is_one_of names (written place)) c.args.places.now) found
