-- The builtins that count as changing the stack, by their names.
use Rattle.std.proofs.Common.{◌≡◌, List, [], ◌∷◌, Option, Some, None, Bool, true, false, ◌&&◌, ◌||◌, if◌then◌else◌, bytes_eq, codes, refl, sym, ◌∙◌, ap, inl, inr}
use Rattle.std.proofs.lemmas.Slice.Eq.{bytes_eq-Decides}
use Rattle.std.proofs.lemmas.Bool.{and_parts, false_from_ne_true, or_cases}
use Rattle.base_language.specs.Language.Text.{Text}
use Rattle.base_language.specs.Language.Builtins.{Builtin, Property, Pop, Drop, PopAll, Named, builtins, property_names, is_one_of, looked_up, builtin_of}
use Rattle.base_language.specs.Language.Expression.{Ident, Grammar}
use Rattle.base_language.specs.Rewritings.Wrapping.{ChangesStack, changes_pop, changes_pop_all, changes_drop}
use Rattle.front_names.specs.Builtins.{builtin_names, changes_stack, meaning_of, name_of}
use Rattle.front_names.specs.declared.builtin.Builtin as code
use Rattle.front_names.specs.declared.builtin.Builtin.TheVariants as builtin
use Rattle.front_names.specs.declared.char_set.CharSet.TheVariants as set
use Rattle.front_restorer.specs.Changing.{is_changer}

-- a builtin that changes the stack has its name
abbrev named_rightly : Builtin → Text → Bool
named_rightly Pop n = bytes_eq n (codes "POP")
named_rightly Drop n = bytes_eq n (codes "DROP")
named_rightly PopAll n = bytes_eq n (codes "POP_ALL")
named_rightly _ n = true

abbrev all_named_rightly : List Named → Bool
all_named_rightly [] = true
all_named_rightly (b ∷ bs) = named_rightly b.builtin b.name && all_named_rightly bs

abbrev Rightly : Text → Option Builtin → Type 0
Rightly n None = Unit {0}
Rightly n (Some b) = named_rightly b n ≡ true

rightly : (bs : List Named) (n : Text) → all_named_rightly bs ≡ true → Rightly n (looked_up bs n)
rightly [] n h = go (is_one_of property_names n)
  where
    go : (b : Bool) → Rightly n (if b then Some (Property n) else None)
    go true = refl
    go false = tt
rightly (b ∷ bs) n h = let k = and_parts (named_rightly b.builtin b.name) (all_named_rightly bs) h in go (bytes_eq b.name n) refl k.0 (rightly bs n k.1)
  where
    go : (t : Bool) → bytes_eq b.name n ≡ t → named_rightly b.builtin b.name ≡ true → Rightly n (looked_up bs n) → Rightly n (if t then Some b.builtin else looked_up bs n)
    go true e k i = sym (ap (named_rightly b.builtin) ((bytes_eq-Decides b.name n).0 e)) ∙ k
    go false e k i = i

all_are : all_named_rightly builtins ≡ true
unfolding builtins
all_are = refl

known : (n : Text) → Rightly n (builtin_of n)
known n = rightly builtins n all_are

pub is_pop : (n : Text) → builtin_of n ≡ Some Pop → n ≡ codes "POP"
is_pop n e = (bytes_eq-Decides n (codes "POP")).0 (rw e at (known n))

is_drop : (n : Text) → builtin_of n ≡ Some Drop → n ≡ codes "DROP"
is_drop n e = (bytes_eq-Decides n (codes "DROP")).0 (rw e at (known n))

pub is_pop_all : (n : Text) → builtin_of n ≡ Some PopAll → n ≡ codes "POP_ALL"
is_pop_all n e = (bytes_eq-Decides n (codes "POP_ALL")).0 (rw e at (known n))

pub pop_named : (n : Text) → builtin_of n ≡ Some Pop → is_changer n ≡ true
pop_named n e = ap is_changer (is_pop n e)

pub pop_all_named : (n : Text) → builtin_of n ≡ Some PopAll → is_changer n ≡ true
pop_all_named n e = ap is_changer (is_pop_all n e)

pub drop_named : (n : Text) → builtin_of n ≡ Some Drop → is_changer n ≡ true
drop_named n e = ap is_changer (is_drop n e)

pop_found : builtin_of (codes "POP") ≡ Some Pop
unfolding builtins
pop_found = refl

pop_all_found : builtin_of (codes "POP_ALL") ≡ Some PopAll
unfolding builtins
pop_all_found = refl

drop_found : builtin_of (codes "DROP") ≡ Some Drop
unfolding builtins
drop_found = refl

-- the name of a builtin of code counts where the builtin changes the stack
changer_of : (b : code.Builtin) → changes_stack (meaning_of b) ≡ is_changer (name_of b)
changer_of (builtin.Set set.Any) = refl
changer_of (builtin.Set set.AsciiDigit) = refl
changer_of (builtin.Set set.AsciiNonzeroDigit) = refl
changer_of (builtin.Set set.AsciiBinDigit) = refl
changer_of (builtin.Set set.AsciiOctDigit) = refl
changer_of (builtin.Set set.AsciiHexDigit) = refl
changer_of (builtin.Set set.AsciiAlphaLower) = refl
changer_of (builtin.Set set.AsciiAlphaUpper) = refl
changer_of (builtin.Set set.AsciiAlpha) = refl
changer_of (builtin.Set set.AsciiAlphanumeric) = refl
changer_of (builtin.Set set.Ascii) = refl
changer_of builtin.Soi = refl
changer_of builtin.Eoi = refl
changer_of builtin.Newline = refl
changer_of builtin.Peek = refl
changer_of builtin.Pop = refl
changer_of builtin.Drop = refl
changer_of builtin.PeekAll = refl
changer_of builtin.PopAll = refl

pub listed_changer : (b : code.Builtin) (n : Text) (r : Bool) → n ≡ name_of b → r ≡ changes_stack (meaning_of b) → r ≡ is_changer n
listed_changer b n r e h = h ∙ (changer_of b ∙ sym (ap is_changer e))

pop_listed : is_one_of builtin_names (codes "POP") ≡ true
unfolding builtins
pop_listed = refl

pop_all_listed : is_one_of builtin_names (codes "POP_ALL") ≡ true
unfolding builtins
pop_all_listed = refl

drop_listed : is_one_of builtin_names (codes "DROP") ≡ true
unfolding builtins
drop_listed = refl

changer_listed : (n : Text) → is_changer n ≡ true → is_one_of builtin_names n ≡ true
changer_listed n h = elim (or_cases (bytes_eq n (codes "POP")) (bytes_eq n (codes "POP_ALL") || bytes_eq n (codes "DROP")) h) [
  | inl e ↦ ap (is_one_of builtin_names) ((bytes_eq-Decides n (codes "POP")).0 e) ∙ pop_listed
  | inr k ↦ elim (or_cases (bytes_eq n (codes "POP_ALL")) (bytes_eq n (codes "DROP")) k) [
    | inl e ↦ ap (is_one_of builtin_names) ((bytes_eq-Decides n (codes "POP_ALL")).0 e) ∙ pop_all_listed
    | inr e ↦ ap (is_one_of builtin_names) ((bytes_eq-Decides n (codes "DROP")).0 e) ∙ drop_listed
  ]
]

true_is_false : true ≡ false → ⊥
true_is_false f = cc

-- no other name counts
pub other_changer : (n : Text) → is_one_of builtin_names n ≡ false → false ≡ is_changer n
other_changer n h = sym (false_from_ne_true (is_changer n) (λ k. true_is_false (sym (changer_listed n k) ∙ h)))

-- a name that counts changes the stack, whatever the rules are
pub changer_changes : (g : Grammar) (n : Text) → is_changer n ≡ true → ChangesStack g (Ident n)
changer_changes g n h = elim (or_cases (bytes_eq n (codes "POP")) (bytes_eq n (codes "POP_ALL") || bytes_eq n (codes "DROP")) h) [
  | inl e ↦ changes_pop (ap builtin_of ((bytes_eq-Decides n (codes "POP")).0 e) ∙ pop_found)
  | inr k ↦ elim (or_cases (bytes_eq n (codes "POP_ALL")) (bytes_eq n (codes "DROP")) k) [
    | inl e ↦ changes_pop_all (ap builtin_of ((bytes_eq-Decides n (codes "POP_ALL")).0 e) ∙ pop_all_found)
    | inr e ↦ changes_drop (ap builtin_of ((bytes_eq-Decides n (codes "DROP")).0 e) ∙ drop_found)
  ]
]
