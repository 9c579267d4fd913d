-- Rows that are added once.
use Rattle.std.proofs.Common.{◌≡◌, ◌∙◌, ◌∷◌, ◌++◌, ◌||◌, ℕ, List, [], Bool, ap, eqb, if◌then◌else◌, refl, sym}
use Rattle.std.specs.List.{list_any}
use Rattle.matcher_code.specs.Steps.{is_among, insert_rule}

any_among : (xs : List ℕ) (n : ℕ) → list_any (λ y. eqb y n) xs ≡ is_among xs n
any_among [] n = refl
any_among (x ∷ xs) n = ap (λ b. eqb x n || b) (any_among xs n)

-- a rule is added unless it is found
pub rule_unless : (found : Bool) (ys xs : List ℕ) (n : ℕ) → found ≡ list_any (λ y. eqb y n) ys → ys ≡ xs → insert_rule xs n ≡ (if found then xs else xs ++ n ∷ [])
rule_unless found ys xs n e p = ap (λ b. if b then xs else xs ++ n ∷ []) (sym (any_among xs n) ∙ (ap (list_any (λ y. eqb y n)) (sym p) ∙ sym e))
