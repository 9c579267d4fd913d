-- Names of ASCII letters are told by their characters as by their bytes.
use Rattle.std.proofs.Common.{◌≡◌, ◌∙◌, List, [], ◌∷◌, Bool, true, false, ℕ, map, refl, ap, if◌then◌else◌}
use Rattle.std.proofs.lemmas.Bool.{and_parts}
use Rattle.std.specs.Prelude.{bytes_eq, is_some, Some}
use Rattle.std.specs.Str.{IsUtf8, chars}
use Rattle.base_language.specs.Language.Builtins.{Named, builtins, looked_up, property_names, general_categories, binary_properties, scripts}
use Rattle.front_names.proofs.Ascii.{are_ascii, is_ascii, one_of_same, same_name}
use Rattle.front_names.proofs.BuiltinLemmas.{names_ascii}
use Rattle.front_names.specs.Names.{is_builtin}

properties_ascii : are_ascii property_names ≡ true
unfolding property_names general_categories binary_properties scripts
properties_ascii = refl

some_if : {A : Type 0} (b d : Bool) (x y : A) → b ≡ d → is_some (if b then Some x else Rattle.std.specs.Prelude.None) ≡ is_some (if d then Some y else Rattle.std.specs.Prelude.None)
some_if true d x y e = ap (λ z. is_some (if z then Some x else Rattle.std.specs.Prelude.None)) e ∙ other d
  where
    other : (z : Bool) → is_some (if z then Some x else Rattle.std.specs.Prelude.None) ≡ is_some (if z then Some y else Rattle.std.specs.Prelude.None)
    other true = refl
    other false = refl
some_if false d x y e = ap (λ z. is_some (if z then Some x else Rattle.std.specs.Prelude.None)) e ∙ other d
  where
    other : (z : Bool) → is_some (if z then Some x else Rattle.std.specs.Prelude.None) ≡ is_some (if z then Some y else Rattle.std.specs.Prelude.None)
    other true = refl
    other false = refl

looked_up_same : (bs : List Named) (n : List ℕ) → are_ascii (map (λ b. b.name) bs) ≡ true → IsUtf8 n → is_some (looked_up bs n) ≡ is_some (looked_up bs (chars n))
looked_up_same [] n h u = some_if _ _ _ _ (one_of_same property_names n properties_ascii u)
looked_up_same (b ∷ bs) n h u =
    let (i, k) = and_parts (is_ascii b.name) (are_ascii (map (λ d. d.name) bs)) h in
    go (bytes_eq b.name n) (bytes_eq b.name (chars n)) (same_name b.name n i u) (looked_up_same bs n k u)
  where
    go : (x y : Bool) → x ≡ y → is_some (looked_up bs n) ≡ is_some (looked_up bs (chars n))
        → is_some (if x then Some b.builtin else looked_up bs n) ≡ is_some (if y then Some b.builtin else looked_up bs (chars n))
    go true true e f = refl
    go true false e f = cc
    go false true e f = cc
    go false false e f = f

pub builtin_by_characters : (n : List ℕ) → IsUtf8 n → is_builtin n ≡ is_builtin (chars n)
builtin_by_characters n u = looked_up_same builtins n names_ascii u
