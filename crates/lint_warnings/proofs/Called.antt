-- What counts as called is called.
use Rattle.std.proofs.Common.{◌≡◌, ◌≢◌, List, [], ◌∷◌, ◌++◌, Bool, true, false, not, ◌||◌, inl, inr, refl, sym, ap, ◌∙◌, bytes_eq}
use Rattle.std.specs.Prelude.{flat_map}
use Rattle.std.proofs.lemmas.Slice.Eq.{bytes_eq-Decides}
use Rattle.std.proofs.lemmas.Grind.{flat_map-append}
use Rattle.std.proofs.lemmas.Bool.{and_from, and_parts, or_cases, or_left, or_right}
use Rattle.std.proofs.Math.Bool.{or_assoc}
use Rattle.base_language.specs.Language.Builtins.{is_one_of}
use Rattle.base_language.specs.Language.Expression.{Expression, Ident}
use Rattle.base_language.specs.Language.Text.{Text}
use Rattle.front_spanned.specs.Spanned.{Spanned, SpannedRule, Leaf, One, Two}
use Rattle.front_spanned.specs.Walk.{preorder}
use Rattle.lint_warnings.specs.Laws.{Calls, IsCalledElsewhere}
use Rattle.lint_warnings.specs.Rules.{calls_another, is_called, name_called, name_of_call}

-- among two lists
pub is_one_of-append : (ts us : List Text) (n : Text) → is_one_of (ts ++ us) n ≡ (is_one_of ts n || is_one_of us n)
is_one_of-append [] us n = refl
is_one_of-append (t ∷ ts) us n = ap (λ b. bytes_eq t n || b) (is_one_of-append ts us n) ∙ sym (or_assoc (bytes_eq t n) (is_one_of ts n) (is_one_of us n))

abbrev names_in : Spanned → List Text
names_in x = flat_map name_called (preorder x)

names_of_two : (x y : Spanned) (n : Text) → is_one_of (flat_map name_called (preorder x ++ preorder y)) n ≡ (is_one_of (names_in x) n || is_one_of (names_in y) n)
names_of_two x y n = ap (λ l. is_one_of l n) (flat_map-append name_called (preorder x) (preorder y)) ∙ is_one_of-append (names_in x) (names_in y) n

leaf_to : (e : Expression) (n : Text) → is_one_of (name_of_call e ++ []) n ≡ true → e ≡ Ident n
leaf_to (Ident m) n h = elim (or_cases (bytes_eq m n) false h) [
  | inl k ↦ ap Ident ((bytes_eq-Decides m n).0 k)
  | inr k ↦ cc
]
leaf_to _ n h = cc

leaf_from : (e : Expression) (n : Text) → e ≡ Ident n → is_one_of (name_of_call e ++ []) n ≡ true
leaf_from e n h = rw (h, (bytes_eq-Decides n n).1 refl) refl

calls_to : (x : Spanned) (n : Text) → is_one_of (names_in x) n ≡ true → Calls x n
calls_to (Leaf s e) n h = leaf_to e n h
calls_to (One s f x) n h = calls_to x n h
calls_to (Two s f x y) n h = elim (or_cases (is_one_of (names_in x) n) (is_one_of (names_in y) n) (sym (names_of_two x y n) ∙ h)) [
  | inl k ↦ inl (calls_to x n k)
  | inr k ↦ inr (calls_to y n k)
]

calls_from : (x : Spanned) (n : Text) → Calls x n → is_one_of (names_in x) n ≡ true
calls_from (Leaf s e) n h = leaf_from e n h
calls_from (One s f x) n h = calls_from x n h
calls_from (Two s f x y) n h = names_of_two x y n ∙ elim h [
  | inl k ↦ or_left (is_one_of (names_in x) n) (is_one_of (names_in y) n) (calls_from x n k)
  | inr k ↦ or_right (is_one_of (names_in x) n) (is_one_of (names_in y) n) (calls_from y n k)
]

not_same : (m n : Text) → not (bytes_eq m n) ≡ true → m ≢ n
not_same m n h e = let k = (bytes_eq-Decides m n).1 e in let z : not (bytes_eq m n) ≡ false = rw k refl in cc

is_other : (m n : Text) (b : Bool) → bytes_eq m n ≡ b → m ≢ n → not b ≡ true
is_other m n true e d = absurd (d ((bytes_eq-Decides m n).0 e))
is_other m n false e d = refl

pub called_to : (rules : List SpannedRule) (n : Text) → is_called rules n ≡ true → IsCalledElsewhere rules n
called_to [] n h = cc
called_to (r ∷ rs) n h = elim (or_cases (calls_another r n) (is_called rs n) h) [
  | inl k ↦ let p = and_parts (not (bytes_eq r.name n)) (is_one_of (names_in r.body) n) k in inl (not_same r.name n p.0, calls_to r.body n p.1)
  | inr k ↦ inr (called_to rs n k)
]

pub called_from : (rules : List SpannedRule) (n : Text) → IsCalledElsewhere rules n → is_called rules n ≡ true
called_from [] n h = absurd h
called_from (r ∷ rs) n h = elim h [
  | inl p ↦ or_left (calls_another r n) (is_called rs n) (and_from (not (bytes_eq r.name n)) (is_one_of (names_in r.body) n) (is_other r.name n (bytes_eq r.name n) refl p.0) (calls_from r.body n p.1))
  | inr k ↦ or_right (calls_another r n) (is_called rs n) (called_from rs n k)
]
