-- The index of rules by name.
use Rattle.std.proofs.Common.{◌≡◌, ◌∙◌, ap, sym, ℕ, suc, ◌+◌, List, [], ◌∷◌, ◌++◌, arith, map}
use Rattle.std.proofs.lemmas.List.{map-append}
use Rattle.std.specs.List.{range_with_len}
use Rattle.doc_pages.proofs.Linking.{range_more}

-- the number of one pair more
pub number_more : {A : Type 0} (pairs : List (A × ℕ)) (x : A × ℕ) (n : ℕ) → x.1 ≡ n → map (λ p. p.1) pairs ≡ range_with_len 0 n
    → map (λ p. p.1) (pairs ++ x ∷ []) ≡ range_with_len 0 (n + 1)
number_more pairs x n e h =
    let next : suc n ≡ n + 1 = omega arith in
    map-append (λ p. p.1) pairs (x ∷ []) ∙ ap (λ t. t ++ x.1 ∷ []) h ∙ ap (λ m. range_with_len 0 n ++ m ∷ []) e
    ∙ sym (range_more 0 n n (omega arith)) ∙ ap (range_with_len 0) next
