-- Names among others.
use Rattle.std.proofs.Common.{◌≡◌, List, [], ◌∷◌, ℕ, Bool, true, false, map, refl, ap, ◌∙◌, Bor}
use Rattle.std.specs.Prelude.{bytes_eq, ◌||◌, is_some, if◌then◌else◌, Some, None}
use Rattle.std.specs.List.{list_any}
use Rattle.base_language.specs.Language.Text.{Text}
use Rattle.base_language.specs.Language.Builtins.{Builtin, Property, builtin_of, is_one_of, property_names}
use Rattle.front_names.proofs.BuiltinLemmas.{other_meaning}
use Rattle.front_names.specs.Builtins.{builtin_names}

-- a test of each name is a test of the list
pub is_one_of-map : (names : List (Bor (List ℕ))) (name : List ℕ) → list_any (λ n. bytes_eq n.now name) names ≡ is_one_of (map (λ n. n.now) names) name
is_one_of-map [] name = refl
is_one_of-map (n ∷ names) name = ap (λ b. bytes_eq n.now name || b) (is_one_of-map names name)

some_if : (b : Bool) (x : Builtin) → is_some (if b then Some x else None) ≡ b
some_if true x = refl
some_if false x = refl

-- a name that is not in the list is known where it is a property's
pub known-else : (n : Text) → is_one_of builtin_names n ≡ false → is_some (builtin_of n) ≡ is_one_of property_names n
known-else n h = ap is_some (other_meaning n h) ∙ some_if (is_one_of property_names n) (Property n)
