-- The rules that are answered call rules and builtins alone.
use Prim.Native.Nat.{zero}
use Rattle.std.proofs.Common.{◌≡◌, ℕ, suc, ◌<◌, List, [], ◌∷◌, Option, Some, None, Bool, true, false, if◌then◌else◌, ◌||◌, map, refl, sym, subst, ap, ◌∙◌, bytes_eq, chars, arith}
use Rattle.std.proofs.lemmas.Bool.{ltb-true}
use Rattle.std.proofs.lemmas.List.Elements.{All-head, All-tail}
use Rattle.std.proofs.lemmas.Slice.Eq.{bytes_eq-Decides}
use Rattle.std.proofs.lemmas.Str.{chars-IsAscii}
use Rattle.std.specs.Borrow.{Bor}
use Rattle.std.specs.List.{All}
use Rattle.std.specs.Prelude.{◌&&◌, is_some, nat_lt, slice_index}
use Rattle.base_language.proofs.Basics.{first_of_both, second_of_both}
use Rattle.base_language.proofs.StepsKeepOutcomes.{Matched, each_pair, neither, two}
use Rattle.base_language.proofs.ListingKeepsGrammars.{Finished}
use Rattle.base_language.specs.Language.Builtins.{Named, Property, builtins, builtin_of, is_one_of, looked_up, property_names, general_categories, binary_properties, scripts}
use Rattle.base_language.specs.Language.Expression.{Grammar, Ident, Rule, rule_of}
use Rattle.base_language.specs.Language.KnownNames.{HasKnownNames}
use Rattle.base_language.specs.Language.Text.{Text}
use Rattle.base_language.specs.Rewritings.Rewriting.{Chain, EachBody}
use Rattle.front_names.specs.Names.{is_builtin}
use Rattle.pest_meta.proofs.NothingNew.{HasNothingNew, kept_by_all, stands_in}
use Rattle.pest_meta.specs.Promises.{AreBuiltinsOf}

-- 1. the names of builtins are written in ASCII, so their characters are their bytes
abbrev is_plain : List ℕ → Bool
is_plain [] = true
is_plain (c ∷ cs) = nat_lt c 128 && is_plain cs

plain_at : (cs : List ℕ) → is_plain cs ≡ true → (i : ℕ) → slice_index cs i < 128
plain_at [] h i = omega arith
plain_at (c ∷ cs) h zero = ltb-true c 128 (first_of_both (nat_lt c 128) (is_plain cs) h)
plain_at (c ∷ cs) h (suc i) = plain_at cs (second_of_both (nat_lt c 128) (is_plain cs) h) i

plain_characters : (cs : List ℕ) → is_plain cs ≡ true → chars cs ≡ cs
plain_characters cs h = chars-IsAscii cs (plain_at cs h)

abbrev are_plain : List Text → Bool
are_plain [] = true
are_plain (n ∷ ns) = is_plain n && are_plain ns

abbrev names_are_plain : List Named → Bool
names_are_plain [] = true
names_are_plain (b ∷ bs) = is_plain b.name && names_are_plain bs

properties_plain : are_plain property_names ≡ true
unfolding property_names general_categories binary_properties scripts
properties_plain = refl

builtins_plain : names_are_plain builtins ≡ true
unfolding builtins
builtins_plain = refl

among_plain : (names : List Text) (n : List ℕ) → are_plain names ≡ true → is_one_of names n ≡ true → chars n ≡ n
among_plain [] n h k = cc
among_plain (w ∷ ws) n h k = go (bytes_eq w n) refl k (among_plain ws n (second_of_both (is_plain w) (are_plain ws) h))
  where
    go : (same : Bool) → bytes_eq w n ≡ same → (same || is_one_of ws n) ≡ true → (is_one_of ws n ≡ true → chars n ≡ n) → chars n ≡ n
    go true e k others =
        subst (λ v. chars v ≡ v) ((bytes_eq-Decides w n).0 e) (plain_characters w (first_of_both (is_plain w) (are_plain ws) h))
    go false e k others = others k

looked_up_plain : (bs : List Named) (n : List ℕ) → names_are_plain bs ≡ true → is_some (looked_up bs n) ≡ true → chars n ≡ n
looked_up_plain [] n h k = go (is_one_of property_names n) refl k
  where
    go : (found : Bool) → is_one_of property_names n ≡ found → is_some (if found then Some (Property n) else None) ≡ true → chars n ≡ n
    go true e k = among_plain property_names n properties_plain e
    go false e k = cc
looked_up_plain (b ∷ bs) n h k = go (bytes_eq b.name n) refl k (looked_up_plain bs n (second_of_both (is_plain b.name) (names_are_plain bs) h))
  where
    go : (same : Bool) → bytes_eq b.name n ≡ same → is_some (if same then Some b.builtin else looked_up bs n) ≡ true → (is_some (looked_up bs n) ≡ true → chars n ≡ n) → chars n ≡ n
    go true e k others =
        subst (λ v. chars v ≡ v) ((bytes_eq-Decides b.name n).0 e) (plain_characters b.name (first_of_both (is_plain b.name) (names_are_plain bs) h))
    go false e k others = others k

builtin_plain : (n : List ℕ) → is_builtin n ≡ true → chars n ≡ n
builtin_plain n h = looked_up_plain builtins n builtins_plain h

-- 2. so the names that are answered as builtins are builtins
abbrev IsBeside : Grammar → Bor (List ℕ) → Type 0
IsBeside g name = (is_builtin name.now ≡ true) × (rule_of g (chars name.now) ≡ None)

not_unknown : (n : List ℕ) → is_builtin n ≡ true → builtin_of n ≡ None → ⊥
not_unknown n h e = let k : is_some (builtin_of n) ≡ false = ap is_some e in cc

named_builtin : (g : Grammar) (names : List (Bor (List ℕ))) (n : Text) → All (IsBeside g) names → is_one_of (map (λ name. chars name.now) names) n ≡ true → builtin_of n ≡ None → ⊥
named_builtin g [] n a h e = cc
named_builtin g (name ∷ names) n a h e =
    go (bytes_eq (chars name.now) n) refl h (named_builtin g names n (All-tail (IsBeside g) name names a))
  where
    builtin : is_builtin name.now ≡ true
    builtin = (All-head (IsBeside g) name names a).0

    go : (same : Bool) → bytes_eq (chars name.now) n ≡ same → (same || is_one_of (map (λ name. chars name.now) names) n) ≡ true
        → (is_one_of (map (λ name. chars name.now) names) n ≡ true → builtin_of n ≡ None → ⊥) → ⊥
    go true f k others =
        let same : name.now ≡ n = sym (builtin_plain name.now builtin) ∙ (bytes_eq-Decides (chars name.now) n).0 f in
        not_unknown name.now builtin (subst (λ m. builtin_of m ≡ None) (sym same) e)
    go false f k others = others k e

pub spelled_known : (g : Grammar) (names : List (Bor (List ℕ))) → AreBuiltinsOf g names → HasKnownNames g
spelled_known g names a n i none e = named_builtin g names n a.outside (a.complete n i none) e

-- 3. changes that bring in no name keep it so
none_before : {p q : Option Rule} → Matched HasNothingNew p q → q ≡ None → p ≡ None
none_before neither e = refl
none_before (two x) e = cc

pub known_on : (g h : Grammar) → EachBody HasNothingNew g h → HasKnownNames g → HasKnownNames h
known_on g h e k n i none b = k n (stands_in g h e (Ident n) tt i) (none_before (each_pair HasNothingNew e n) none) b

pub answer_known : (g reached answer : Grammar) → Chain g reached → Finished reached answer → HasKnownNames g → HasKnownNames answer
answer_known g reached answer c f k = kept_by_all HasKnownNames known_on g reached answer c f k
