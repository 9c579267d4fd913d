-- Small lemmas on truth values, options and lists that the standard library lacks.
use Rattle.std.proofs.Common.{◌≡◌, ℕ, zero, suc, List, [], ◌∷◌, ◌++◌, Bool, true, false, ◌&&◌, ◌||◌, Option, Some, slice_get, length, ◌⊎◌, inl, inr, refl, sym, ◌∙◌, ap, arith}

-- 1. truth values
pub first_of_both : (a b : Bool) → (a && b) ≡ true → a ≡ true
first_of_both true b h = refl
first_of_both false b h = h

pub second_of_both : (a b : Bool) → (a && b) ≡ true → b ≡ true
second_of_both true b h = h
second_of_both false b h = cc

pub first_of_neither : (a b : Bool) → (a || b) ≡ false → a ≡ false
first_of_neither true b h = h
first_of_neither false b h = refl

pub second_of_neither : (a b : Bool) → (a || b) ≡ false → b ≡ false
second_of_neither true b h = cc
second_of_neither false b h = h

pub clash : (b : Bool) → b ≡ true → b ≡ false → ⊥
clash true h k = cc
clash false h k = cc

-- 2. options
pub same_some : {A : Type 0} {x y : A} → Some x ≡ Some y → x ≡ y
same_some e = cc

pub one_item : {A : Type 0} {o : Option A} {x y : A} → o ≡ Some x → o ≡ Some y → x ≡ y
one_item e f = same_some (sym e ∙ f)

-- 3. what stands at a place of a list
pub got_more : {A : Type 0} (xs : List A) (y : A) (k : ℕ) (n : A) → slice_get (xs ++ y ∷ []) k ≡ Some n → (slice_get xs k ≡ Some n) ⊎ ((k ≡ length xs) × (y ≡ n))
got_more [] y zero n e = inr (refl, cc)
got_more [] y (suc k) n e = cc
got_more (x ∷ xs) y zero n e = inl e
got_more (x ∷ xs) y (suc k) n e = elim (got_more xs y k n e) [ inl h ↦ inl h | inr h ↦ inr (ap suc h.0, h.1) ]

-- what stands at a place of one list has its like in another that is as long
pub got_alike : {A B : Type 0} (xs : List A) (ys : List B) (k : ℕ) (x : A) → slice_get xs k ≡ Some x → length xs ≡ length ys → (y : B) × (slice_get ys k ≡ Some y)
got_alike [] ys k x e l = cc
got_alike (x ∷ xs) [] k z e l = absurd (omega arith)
got_alike (x ∷ xs) (y ∷ ys) zero z e l = (y, refl)
got_alike (x ∷ xs) (y ∷ ys) (suc k) z e l = got_alike xs ys k z e (omega arith)
