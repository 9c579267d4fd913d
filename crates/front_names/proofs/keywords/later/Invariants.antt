use Rattle.std.proofs.Common.{◌≡◌, List, ℕ, [], ◌++◌, map, drop, Bor}
use Rattle.std.specs.Prelude.{◌||◌, bytes_eq}
use Rattle.std.specs.HashSet.{contains_by}
use Rattle.base_language.specs.Language.Builtins.{is_one_of}
use Rattle.base_language.specs.Language.Text.{Text}
use Rattle.base_language.specs.Pieces.Saying.{piece_of, written}
use Rattle.front_names.specs.Names.{later_places}
use Rattle.front_names.specs.NameSets.{HasNames}
use Rattle.front_names.proofs.keywords.later.Given as goal

abbrev pub invariant-loop-place : goal.invariant-loop-place
invariant-loop-place l = record {
  later : (known : List Text) × HasNames known l.known
      × (later_places [] (map piece_of l.places) ≡ map piece_of l.later.items ++ later_places known (map piece_of (drop l.place-index l.places)));
  taken : (name : Bor (List ℕ)) →
      is_one_of (map written (map piece_of l.places)) name.now
      ≡ (contains_by (λ k. bytes_eq name.now k.now) l.known || is_one_of (map written (map piece_of (drop l.place-index l.places))) name.now);
}
