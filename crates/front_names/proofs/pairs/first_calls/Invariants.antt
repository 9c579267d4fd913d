use Rattle.std.proofs.Common.{◌≡◌, List, ◌++◌, map, drop}
use Rattle.base_language.specs.Language.Text.{Text}
use Rattle.base_language.specs.Pieces.Saying.{piece_of, written}
use Rattle.front_names.specs.Names.{first_places}
use Rattle.front_names.specs.NameSets.{HasNames}
use Rattle.front_names.proofs.pairs.first_calls.Given as goal

abbrev pub invariant-loop-call : goal.invariant-loop-call
invariant-loop-call l = (before : List Text) → HasNames before l.fn.known
    → (known : List Text) × HasNames known l.known
    × (map written (first_places before (map piece_of l.calls))
    ≡ map (λ t. t.now) l.first.items ++ map written (first_places known (map piece_of (drop l.call-index l.calls))))
