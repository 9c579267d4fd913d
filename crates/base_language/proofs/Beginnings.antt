-- Texts that begin others, and texts of two parts.
use Rattle.std.proofs.Common.{◌≡◌, [], ◌∷◌, ◌++◌, true, nat_eq, refl, sym, ◌∙◌, ap, eq-eqb, eqb-true}
use lib.Utf8.{scalar, scalars}
use Rattle.std.proofs.lemmas.Bool.{and_parts}
use Rattle.base_language.specs.Language.Matching.{begins}
use Rattle.base_language.specs.Language.Text.{Text}

pub begins-append : (a b : Text) → begins nat_eq a (a ++ b) ≡ true
begins-append [] b = refl
begins-append (x ∷ a) b = rw (eq-eqb x x refl, begins-append a b) refl

pub begins-gives : (a b : Text) → begins nat_eq a b ≡ true → (r : Text) × (b ≡ a ++ r)
begins-gives [] b h = (b, refl)
begins-gives (x ∷ a) [] h = cc
begins-gives (x ∷ a) (y ∷ b) h =
    let p = and_parts (nat_eq x y) (begins nat_eq a b) h in
    let r = begins-gives a b p.1 in
    let e : x ≡ y = eqb-true x y p.0 in
    (r.0, ap (λ l. y ∷ l) r.1 ∙ ap (λ z. z ∷ (a ++ r.0)) (sym e))

pub scalars_parts : (front back : Text) → scalars (front ++ back) ≡ true → (scalars front ≡ true) × (scalars back ≡ true)
scalars_parts [] back h = (refl, h)
scalars_parts (c ∷ front) back h =
    let p = and_parts (scalar c) (scalars (front ++ back)) h in
    let q = scalars_parts front back p.1 in
    (rw (p.0, q.0) refl, q.1)
