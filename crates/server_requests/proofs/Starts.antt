-- The starts of definitions, and what is outside them.
use Rattle.std.proofs.Common.{◌≡◌, List, [], ◌∷◌, Bool, true, false, cond, refl}
use Rattle.std.specs.Prelude.{◌||◌, filter}

-- one more byte among the starts is one fewer left
pub or_put : (e a b : Bool) → (cond e true a || b) ≡ (a || (e || b))
or_put true true b = refl
or_put true false b = refl
or_put false true b = refl
or_put false false b = refl

-- no byte is left
pub or_none : (a : Bool) → (a || false) ≡ a
or_none true = refl
or_none false = refl

-- equal tests keep the same
pub filter_same : {X : Type 0} (p q : X → Bool) (xs : List X) → ((x : X) → p x ≡ q x) → filter p xs ≡ filter q xs
filter_same p q [] e = refl
filter_same p q (x ∷ xs) e = rw (e x, filter_same p q xs e) refl
