use Rattle.std.proofs.Common.{◌≡◌, ◌++◌, ◌∷◌, drop, map}
use Rattle.format_code.specs.Sections.{ends_from}
use Rattle.format_code.proofs.lists.places_of.Given as goal

-- the places so far, and those of the other lists
abbrev pub invariant-loop-list : goal.invariant-loop-list
invariant-loop-list g l =
    l.places.items ++ ends_from l.«end» (map (λ x. x.now) (drop l.list-index l.lists))
    ≡ l.start ∷ ends_from l.start (map (λ x. x.now) l.lists)
