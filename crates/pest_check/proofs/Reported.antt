-- What an outcome was, by what is said of it.
use Rattle.std.proofs.Common.{◌≡◌, ◌⊎◌, inl, inr, ℕ, Result, Ok, Err, OnOk, arith, refl}
use Rattle.std.specs.Prelude.{IsErr}

-- if there are rules, the status is not that of what cannot be read
pub not_three : (status : ℕ) → (status ≡ 0) ⊎ (status ≡ 2) ⊎ (status ≡ 4) → status ≡ 3 → ⊥
not_three status (inl e) three = omega (arith, e, three)
not_three status (inr (inl e)) three = omega (arith, e, three)
not_three status (inr (inr e)) three = omega (arith, e, three)

-- what holds if a write succeeds holds if the status is that of rules that were printed
pub where_printed : {X E : Type 0} (written : Result X E) (status : ℕ) (P : Type 0) → OnOk written P → (IsErr written → status ≡ 4) → status ≡ 0 → P
where_printed (Ok x) status P h four zero = h
where_printed (Err e) status P h four zero = absurd (neither status (four refl) zero)
  where
    neither : (n : ℕ) → n ≡ 4 → n ≡ 0 → ⊥
    neither n is_four is_zero = omega (arith, is_four, is_zero)
