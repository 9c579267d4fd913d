-- Token trees as lines of text, visit by visit.
use Rattle.std.specs.Prelude.{ℕ, ◌+◌, ◌-◌, ◌==◌, List, [], ◌∷◌, ◌++◌, Option, Some, None, codes, encode_utf8_all, if◌then◌else◌}
use Rattle.matcher_engine.specs.Walks.{Enters, Leaves, Visit, Visited}
use Rattle.matcher_support.specs.Shown.{leaf, line_start}

-- the text before the name of a tree, by the visit before it
abbrev pub opening : ℕ → Option Visit → Visited → List ℕ
opening level None t = line_start level
opening level (Some (Enters p)) t =
    if p.node.after == t.node.after then codes " > " else codes "\n" ++ line_start (level + 1)
opening level (Some (Leaves q)) t = line_start level

-- the text at the end of a tree
abbrev pub closing : List ℕ → Option Visit → Visited → List ℕ
closing text None t = []
closing text (Some (Enters p)) t = leaf text t.node.start t.node.end
closing text (Some (Leaves q)) t = []

-- the part that a visit adds
abbrev pub piece : List ℕ → ℕ → Option Visit → Visit → List ℕ
piece text level before (Enters t) = opening level before t ++ encode_utf8_all t.rule
piece text level before (Leaves t) = closing text before t

-- the level after a visit
abbrev pub level_after : ℕ → Option Visit → Visit → ℕ
level_after level (Some (Enters p)) (Enters t) =
    if p.node.after == t.node.after then level else level + 1
level_after level (Some (Leaves q)) (Leaves t) = if q.number == t.number + 1 then level else level - 1
level_after level _ _ = level

-- the parts that the visits of a walk add
abbrev pub flat : List ℕ → ℕ → Option Visit → List Visit → List ℕ
flat text level before [] = []
flat text level before (v ∷ vs) =
    piece text level before v ++ flat text (level_after level before v) (Some v) vs
