-- Lines of several texts.
use Rattle.std.specs.Prelude.{ℕ, List, [], ◌∷◌, ◌++◌}
use Rattle.std.specs.Borrow.{Bor}

-- texts, one after another, and a line feed
abbrev pub line_of : List (Bor (List ℕ)) → List ℕ
line_of [] = 10 ∷ []
line_of (text ∷ texts) = text.now ++ line_of texts
