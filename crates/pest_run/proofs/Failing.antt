-- Names of a failure.
use Rattle.std.proofs.Common.{◌≡◌, ◌∙◌, Bool, List, [], eqb-true, length, nat_eq, sym, true, ℕ}
use Rattle.std.proofs.lemmas.List.{nil_from_length}

-- a list of no length
pub none_there : {X : Type 0} (xs : List X) (n : ℕ) (b : Bool) → n ≡ length xs → b ≡ nat_eq n 0 → b ≡ true → xs ≡ []
none_there xs n b l p q = nil_from_length xs (sym l ∙ eqb-true n 0 (sym p ∙ q))
