-- Ranges and the characters that they cover.
use Rattle.matcher_code.specs.Lists.{is_covered}
use Rattle.std.proofs.Common.{◌≡◌, refl, sym, ◌∙◌, ap, ℕ, ◌<◌, List, [], ◌∷◌, ◌++◌, Bool, true, false, ◌||◌, ◌&&◌, ◌≤◌, ◌⊎◌, inl, inr, ap₂, arith, nat_eq, nat_le}
use Rattle.std.proofs.Math.Bool.{and-false}
use Rattle.std.proofs.lemmas.Bool.{cases_lt}
use Rattle.base_language.specs.Language.Builtins.{is_between}
use Rattle.matcher_sets.specs.Ranges.{Adds}

pub or_assoc : (a b c : Bool) → (a || (b || c)) ≡ ((a || b) || c)
or_assoc true b c = refl
or_assoc false b c = refl

pub covered-append : (xs ys : List (ℕ × ℕ)) (c : ℕ) → is_covered (xs ++ ys) c ≡ (is_covered xs c || is_covered ys c)
covered-append [] ys c = refl
covered-append (r ∷ rs) ys c = ap (λ b. is_between r.0 r.1 c || b) (covered-append rs ys c) ∙ or_assoc (is_between r.0 r.1 c) (is_covered rs c) (is_covered ys c)

pub or_none : (b : Bool) → (b || false) ≡ b
or_none true = refl
or_none false = refl

pub between_same : (a x : ℕ) → is_between a a x ≡ nat_eq a x
between_same a x = elim (cases_lt a x) [
  | inl k ↦
      let e : nat_le x a ≡ false = grind arith in
      let f : nat_eq a x ≡ false = grind arith in
      ap (λ b. nat_le a x && b) e ∙ (and-false (nat_le a x) ∙ sym f)
  | inr k ↦ other k (cases_lt x a)
]
  where
    other : x ≤ a → (x < a) ⊎ (a ≤ x) → is_between a a x ≡ nat_eq a x
    other k (inl j) =
        let e : nat_le a x ≡ false = grind arith in
        let f : nat_eq a x ≡ false = grind arith in
        ap (λ b. b && nat_le x a) e ∙ sym f
    other k (inr j) =
        let z : a ≡ x = omega (arith, k, j) in
        let e : nat_le a x ≡ true = grind arith in
        let e2 : nat_le x a ≡ true = grind arith in
        let f : nat_eq a x ≡ true = grind arith in
        ap₂ (λ b d. b && d) e e2 ∙ sym f

-- one alternative more
pub one_more : (old new : List (ℕ × ℕ)) (a b : ℕ → Bool) (whole : ℕ → Bool) → Adds old new a
    → ((x : ℕ) → x < 1114112 → (is_covered old x || (a x || b x)) ≡ whole x)
    → (x : ℕ) → x < 1114112 → (is_covered new x || b x) ≡ whole x
one_more old new a b whole adds same x h =
    ap (λ y. y || b x) (adds x h) ∙ (sym (or_assoc (is_covered old x) (a x) (b x)) ∙ same x h)
