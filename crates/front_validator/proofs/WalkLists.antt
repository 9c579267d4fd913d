-- Lists that are taken from their ends.
use Rattle.std.proofs.Common.{◌≡◌, ℕ, zero, suc, List, [], ◌∷◌, ◌++◌, ◌-◌, take, length, arith, refl, sym, ◌∙◌, ap}
use Rattle.std.proofs.lemmas.List.{length_push}
use Rattle.front_analysis.proofs.LayoutLemmas.{tails, heads}
use Rattle.front_validator.specs.Searching.{ordered, rest}

none_at_end : {A : Type 0} (xs : List A) (x : A) → xs ++ x ∷ [] ≡ [] → ⊥
none_at_end [] x e = cc
none_at_end (y ∷ xs) x e = cc

-- two lists that end alike
pub same_end : {A : Type 0} (xs ys : List A) (x y : A) → xs ++ x ∷ [] ≡ ys ++ y ∷ [] → (xs ≡ ys) × (x ≡ y)
same_end [] [] x y e = (refl, heads e)
same_end [] (z ∷ ys) x y e = absurd (none_at_end ys y (sym (tails e)))
same_end (z ∷ xs) [] x y e = absurd (none_at_end xs x (tails e))
same_end (z ∷ xs) (w ∷ ys) x y e = let (h, k) = same_end xs ys x y (tails e) in (let a = heads e in cc, k)

-- what is taken from the end is the first of the list in order
pub taken_end : {A : Type 0} (all : List A) (popped : List A) (x : A) → popped ++ x ∷ [] ≡ ordered all → (others : List A) × (all ≡ x ∷ others) × (popped ≡ ordered others)
taken_end [] popped x e = absurd (none_at_end popped x e)
taken_end (y ∷ all) popped x e = let (h, k) = same_end popped (ordered all) x y e in (all, (let a = sym k in cc), h)

pub nothing_left : {A : Type 0} (all : List A) → ordered all ≡ [] → all ≡ []
nothing_left [] e = refl
nothing_left (x ∷ all) e = absurd (none_at_end (ordered all) x e)

take_front : {A : Type 0} (xs : List A) (x : A) → take (length xs) (xs ++ x ∷ []) ≡ xs
take_front [] x = refl
take_front (y ∷ xs) x = ap (λ z. y ∷ z) (take_front xs x)

-- a trail whose last rule is taken away
pub trail_popped : (path : List ℕ) (trail popped : List ℕ) (n : ℕ) → trail ≡ ordered path → n ≡ length trail → popped ≡ take (n - 1) trail → popped ≡ ordered (rest path)
trail_popped [] trail popped n e l h = h ∙ (ap (take (n - 1)) e ∙ taken_none (n - 1))
  where
    taken_none : (m : ℕ) → take {A = ℕ} m [] ≡ []
    taken_none zero = refl
    taken_none (suc m) = refl
trail_popped (k ∷ path) trail popped n e l h =
    let a = ap (λ z. length z) e in
    let b = length_push (ordered path) k in
    let m : n - 1 ≡ length (ordered path) = omega arith in
    h ∙ (ap (λ z. take (n - 1) z) e ∙ (ap (λ i. take i (ordered path ++ k ∷ [])) m ∙ take_front (ordered path) k))
