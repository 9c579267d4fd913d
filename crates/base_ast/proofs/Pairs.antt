-- Two more that are to be compared.
use Rattle.std.proofs.Common.{◌≡◌, ℕ, ◌+◌, ◌≤◌, ◌<◌, Bool, true, false, ◌&&◌, List, [], ◌∷◌, ◌++◌, refl, sym, ap, ◌∙◌, arith}
use Rattle.base_language.proofs.RewritingsKeepOutcomes.{and_assoc}
use Rattle.base_ast.specs.Sameness.{are_both, are_equal, heaviness_of_all}
use Rattle.base_ast.specs.declared.sameness.Both.{Both}

swapped : (a b c : Bool) → (a && (b && c)) ≡ (b && (a && c))
swapped true b c = refl
swapped false true c = refl
swapped false false c = refl

module _ {T : Type 0} (is_equal : T → T → Bool) where
  are_equal_last : (ps : List (Both T)) (p : Both T) → are_equal is_equal (ps ++ (p ∷ [])) ≡ (are_both is_equal p && are_equal is_equal ps)
  are_equal_last [] p = refl
  are_equal_last (q ∷ ps) p =
      ap (λ b. are_both is_equal q && b) (are_equal_last ps p) ∙ swapped (are_both is_equal q) (are_both is_equal p) (are_equal is_equal ps)

  -- the operands of two that are compared are put on a list
  pub one_put : (os ns : List (Both T)) (p : Both T) (answer : Bool) → ns ≡ os ++ (p ∷ []) → (answer && are_equal is_equal ns) ≡ ((answer && are_both is_equal p) && are_equal is_equal os)
  one_put os ns p answer i =
      ap (λ b. answer && b) (ap (are_equal is_equal) i ∙ are_equal_last os p) ∙ and_assoc answer (are_both is_equal p) (are_equal is_equal os)

  pub two_put : (os ms ns : List (Both T)) (p q : Both T) → ms ≡ os ++ (q ∷ []) → ns ≡ ms ++ (p ∷ []) → are_equal is_equal ns ≡ ((are_both is_equal p && are_both is_equal q) && are_equal is_equal os)
  two_put os ms ns p q i j =
      ap (are_equal is_equal) j ∙ (are_equal_last ms p
      ∙ (ap (λ b. are_both is_equal p && b) (ap (are_equal is_equal) i ∙ are_equal_last os q)
      ∙ and_assoc (are_both is_equal p) (are_both is_equal q) (are_equal is_equal os)))

  -- the last two are compared, and what is inside them waits
  pub remain : (whole before answer : Bool) (os ms ns : List (Both T)) (p : Both T) → (before && are_equal is_equal os) ≡ whole → before ≡ true → os ≡ ms ++ (p ∷ []) → (answer && are_equal is_equal ns) ≡ (are_both is_equal p && are_equal is_equal ms) → (answer && are_equal is_equal ns) ≡ whole
  remain whole before answer os ms ns p h t i j =
      j ∙ (sym (are_equal_last ms p) ∙ (sym (ap (are_equal is_equal) i) ∙ (ap (λ b. b && are_equal is_equal os) (sym t) ∙ h)))

module _ {T : Type 0} (heaviness : T → ℕ) where
  heaviness_last : (ps : List (Both T)) (p : Both T) → heaviness_of_all heaviness (ps ++ (p ∷ [])) ≡ heaviness_of_all heaviness ps + heaviness p.first.now.value
  heaviness_last [] p = omega arith
  heaviness_last (q ∷ ps) p = let others = heaviness_last ps p in omega arith

  pub one_heavier : (os ns : List (Both T)) (p : Both T) → ns ≡ os ++ (p ∷ []) → heaviness_of_all heaviness ns ≡ heaviness_of_all heaviness os + heaviness p.first.now.value
  one_heavier os ns p i = ap (heaviness_of_all heaviness) i ∙ heaviness_last os p

  pub lighter : (os ms ns : List (Both T)) (p : Both T) (n : ℕ) → os ≡ ms ++ (p ∷ []) → heaviness_of_all heaviness ns ≤ n + heaviness_of_all heaviness ms → n < heaviness p.first.now.value → heaviness_of_all heaviness ns < heaviness_of_all heaviness os
  lighter os ms ns p n i h k = let all = one_heavier ms os p i in omega arith
