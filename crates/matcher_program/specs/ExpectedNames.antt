-- The expected set: names without duplicates, in order.
use Rattle.std.specs.Prelude.{ℕ, List, [], ◌∷◌, ◌++◌, Bool, false, ◌||◌, bytes_eq, chars, if◌then◌else◌, map}
use Rattle.std.specs.Borrow.{Bor}
use Rattle.base_language.specs.Language.Text.{Text}

-- whether a name is among these
abbrev pub is_among : List Text → Text → Bool
is_among [] n = false
is_among (m ∷ ms) n = bytes_eq m n || is_among ms n

-- names, and then one more that is not among them
abbrev pub with_name : List Text → Text → List Text
with_name names n = if is_among names n then names else names ++ n ∷ []

-- names, and then those of others that are not among them, each once
abbrev pub with_names : List Text → List Text → List Text
with_names names [] = names
with_names names (n ∷ ns) = with_names (with_name names n) ns

-- names in the order in which each comes first
abbrev pub each_once : List Text → List Text
each_once names = with_names [] names

-- names of the code
abbrev pub name_texts : List (Bor (List ℕ)) → List Text
name_texts names = map (λ n. chars n.now) names
