-- Sums and products up to a greatest number.
use Rattle.std.proofs.Common.{◌≡◌, sym, ◌∙◌, ap, subst, ℕ, zero, suc, ◌+◌, ◌*◌, ◌≤◌, inl, inr, arith}
use Rattle.std.specs.Prelude.{min}
use Rattle.std.proofs.Math.Nat.{le-mul_of_pos_right, le_trans, min-eq_left, min-eq_right, mul_comm, zero-mul}
use Rattle.std.proofs.lemmas.Bool.{cases_lt}

module _ (m : ℕ) where
  sum_below : (a b : ℕ) → min (min a m + b) m ≡ min (a + b) m
  sum_below a b = omega arith

  reaches : (a x : ℕ) → x ≤ suc a * x
  reaches a x = subst (λ y. x ≤ y) (mul_comm x (suc a)) (le-mul_of_pos_right x (omega arith))

  product_below : (a b : ℕ) → min (a * min b m) m ≡ min (a * b) m
  product_below zero b = ap (λ x. min x m) (zero-mul (min b m) ∙ sym (zero-mul b))
  product_below (suc a) b =
      elim (cases_lt b m) [
        | inl less ↦ ap (λ x. min (suc a * x) m) (min-eq_left (omega (arith, less)))
        | inr more ↦ ap (λ x. min (suc a * x) m) (min-eq_right more)
            ∙ (min-eq_right (reaches a m) ∙ sym (min-eq_right (le_trans more (reaches a b))))
      ]

  -- the turns of code of a given number of operations on a given number of bytes, by sums and products that
  -- stop at the greatest number
  pub stays_below : (size bytes a b c d e r : ℕ) → a ≡ min (bytes + 4) m → b ≡ min (size * a) m → c ≡ min (b + 1) m
      → d ≡ min (size * c) m → e ≡ min (d * 3) m → r ≡ min (e + 1) m → r ≡ min (3 * size * (size * (bytes + 4) + 1) + 1) m
  stays_below size bytes a b c d e r is_a is_b is_c is_d is_e is_r =
      let labels = size * (bytes + 4) in
      let turns = size * (labels + 1) in
      let to_b : b ≡ min labels m = is_b ∙ (ap (λ x. min (size * x) m) is_a ∙ product_below size (bytes + 4)) in
      let to_c : c ≡ min (labels + 1) m = is_c ∙ (ap (λ x. min (x + 1) m) to_b ∙ sum_below labels 1) in
      let to_d : d ≡ min turns m = is_d ∙ (ap (λ x. min (size * x) m) to_c ∙ product_below size (labels + 1)) in
      let thrice : min (min turns m * 3) m ≡ min (turns * 3) m = omega arith in
      let to_e : e ≡ min (turns * 3) m = is_e ∙ (ap (λ x. min (x * 3) m) to_d ∙ thrice) in
      let to_r : r ≡ min (turns * 3 + 1) m = is_r ∙ (ap (λ x. min (x + 1) m) to_e ∙ sum_below (turns * 3) 1) in
      let same : turns * 3 ≡ 3 * size * (labels + 1) = grind arith in
      to_r ∙ ap (λ x. min (x + 1) m) same
