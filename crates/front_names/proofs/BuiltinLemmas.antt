-- The list of builtins, and the names in it.
use Rattle.std.proofs.Common.{◌≡◌, ◌∙◌, ◌<◌, ◌≤◌, ◌+◌, ◌&&◌, ◌||◌, List, [], ◌∷◌, Bool, true, false, Some, if◌then◌else◌, ℕ, suc, refl, sym, ap, map, length, drop, get_or, bytes_eq, add-one}
use Rattle.std.proofs.Math.Seq.{drop-cons}
use Rattle.std.proofs.Math.ListN.{drop_of_length-le}
use Rattle.std.specs.Str.{IsUtf8, chars}
use Rattle.std.proofs.lemmas.Bool.{and_parts, false_from_ne_true}
use Rattle.std.proofs.lemmas.Slice.Eq.{bytes_eq-Decides}
use Rattle.base_language.specs.Language.Text.{Text}
use Rattle.base_language.specs.Language.Builtins.{Named, builtin_of, builtins, is_one_of, looked_up}
use Rattle.front_names.specs.Builtins.{begins_with_capital, builtin_names, entry_of, meaning_of, name_of, property_of}
use Rattle.front_names.specs.declared.builtin.Builtin.{Builtin}
use Rattle.front_names.specs.declared.builtin.Builtin.TheVariants as is
use Rattle.front_names.specs.declared.char_set.CharSet.TheVariants as set
use Rattle.front_names.proofs.Ascii.{are_ascii, ascii_chars, is_ascii, one_of_same}

-- the names of a list, without that of an element that was looked at
pub next_named : {A : Type 0} (name : A → Text) (xs : List A) (i : ℕ) (d : A) (n : Text) → i < length xs → bytes_eq (name (get_or xs i d)) n ≡ false
    → is_one_of (map name (drop i xs)) n ≡ is_one_of (map name (drop (i + 1) xs)) n
next_named name xs i d n l h =
    ap (λ ys. is_one_of (map name ys) n) (drop-cons xs i d l) ∙ (ap (λ b. b || is_one_of (map name (drop (suc i) xs)) n) h ∙ rw add-one refl)

-- no name is left at the end
pub none_left : {A : Type 0} (name : A → Text) (xs : List A) (i : ℕ) (n : Text) → length xs ≤ i → is_one_of (map name (drop i xs)) n ≡ false
none_left name xs i n l = ap (λ ys. is_one_of (map name ys) n) (drop_of_length-le xs l)

names_of_entries : (bs : List Builtin) → map (λ b. b.name) (map entry_of bs) ≡ map name_of bs
names_of_entries [] = refl
names_of_entries (b ∷ bs) = ap (λ ns. name_of b ∷ ns) (names_of_entries bs)

-- the names of all are those of the list
pub names_of_all : (bs : List Builtin) → map entry_of bs ≡ builtins → map name_of bs ≡ builtin_names
names_of_all bs e = sym (names_of_entries bs) ∙ ap (map (λ b. b.name)) e

pub names_ascii : are_ascii builtin_names ≡ true
unfolding builtins
names_ascii = refl

pub name_ascii : (b : Builtin) → is_ascii (name_of b) ≡ true
name_ascii (is.Set set.Any) = refl
name_ascii (is.Set set.AsciiDigit) = refl
name_ascii (is.Set set.AsciiNonzeroDigit) = refl
name_ascii (is.Set set.AsciiBinDigit) = refl
name_ascii (is.Set set.AsciiOctDigit) = refl
name_ascii (is.Set set.AsciiHexDigit) = refl
name_ascii (is.Set set.AsciiAlphaLower) = refl
name_ascii (is.Set set.AsciiAlphaUpper) = refl
name_ascii (is.Set set.AsciiAlpha) = refl
name_ascii (is.Set set.AsciiAlphanumeric) = refl
name_ascii (is.Set set.Ascii) = refl
name_ascii is.Soi = refl
name_ascii is.Eoi = refl
name_ascii is.Newline = refl
name_ascii is.Peek = refl
name_ascii is.Pop = refl
name_ascii is.Drop = refl
name_ascii is.PeekAll = refl
name_ascii is.PopAll = refl

-- the name of a builtin has its meaning
pub named_meaning : (b : Builtin) → builtin_of (name_of b) ≡ Some (meaning_of b)
unfolding builtins
named_meaning (is.Set set.Any) = refl
named_meaning (is.Set set.AsciiDigit) = refl
named_meaning (is.Set set.AsciiNonzeroDigit) = refl
named_meaning (is.Set set.AsciiBinDigit) = refl
named_meaning (is.Set set.AsciiOctDigit) = refl
named_meaning (is.Set set.AsciiHexDigit) = refl
named_meaning (is.Set set.AsciiAlphaLower) = refl
named_meaning (is.Set set.AsciiAlphaUpper) = refl
named_meaning (is.Set set.AsciiAlpha) = refl
named_meaning (is.Set set.AsciiAlphanumeric) = refl
named_meaning (is.Set set.Ascii) = refl
named_meaning is.Soi = refl
named_meaning is.Eoi = refl
named_meaning is.Newline = refl
named_meaning is.Peek = refl
named_meaning is.Pop = refl
named_meaning is.Drop = refl
named_meaning is.PeekAll = refl
named_meaning is.PopAll = refl

not_listed : (bs : List Named) (n : Text) → is_one_of (map (λ b. b.name) bs) n ≡ false → looked_up bs n ≡ property_of n
not_listed [] n h = refl
not_listed (b ∷ bs) n h = go (bytes_eq b.name n) h (not_listed bs n)
  where
    go : (s : Bool) → (s || is_one_of (map (λ d. d.name) bs) n) ≡ false → (is_one_of (map (λ d. d.name) bs) n ≡ false → looked_up bs n ≡ property_of n)
        → (if s then Some b.builtin else looked_up bs n) ≡ property_of n
    go true k ih = cc
    go false k ih = ih k

-- any other name has the meaning of a property, or none
pub other_meaning : (n : Text) → is_one_of builtin_names n ≡ false → builtin_of n ≡ property_of n
other_meaning n h = not_listed builtins n h

-- a builtin whose name has these bytes
pub found_written : (b : Builtin) (w v : Text) → w ≡ name_of b → bytes_eq w v ≡ true → v ≡ name_of b
found_written b w v e h = sym ((bytes_eq-Decides w v).0 h) ∙ e

pub found_named : (b : Builtin) (w v : Text) → w ≡ name_of b → bytes_eq w v ≡ true → chars v ≡ name_of b
found_named b w v e h = ap chars (found_written b w v e h) ∙ ascii_chars (name_of b) (name_ascii b)

-- a name that none of all has is not in the list
pub unlisted : (bs : List Builtin) (v : Text) → map entry_of bs ≡ builtins → is_one_of (map name_of bs) v ≡ false → is_one_of builtin_names v ≡ false
unlisted bs v e h = ap (λ ns. is_one_of ns v) (sym (names_of_all bs e)) ∙ h

pub unnamed : (v : Text) → IsUtf8 v → is_one_of builtin_names v ≡ false → is_one_of builtin_names (chars v) ≡ false
unnamed v u h = sym (one_of_same builtin_names v names_ascii u) ∙ h

-- the names of all begin with capital letters, so a name that does not is none of them
abbrev all_capital : List Text → Bool
all_capital [] = true
all_capital (t ∷ ts) = begins_with_capital t && all_capital ts

names_capital : all_capital builtin_names ≡ true
unfolding builtins
names_capital = refl

other_names : (ts : List Text) (n : Text) → all_capital ts ≡ true → begins_with_capital n ≡ false → is_one_of ts n ≡ false
other_names [] n h k = refl
other_names (t ∷ ts) n h k =
    let (i, j) = and_parts (begins_with_capital t) (all_capital ts) h in
    let differs : bytes_eq t n ≡ false = false_from_ne_true (bytes_eq t n) (λ e. let same : t ≡ n = (bytes_eq-Decides t n).0 e in cc) in
    ap (λ b. b || is_one_of ts n) differs ∙ other_names ts n j k

pub not_capital : (n : Text) → begins_with_capital n ≡ false → is_one_of builtin_names n ≡ false
not_capital n k = other_names builtin_names n names_capital k
