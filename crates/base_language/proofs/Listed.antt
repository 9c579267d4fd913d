-- What the listing does to a sequence with nothing to list within it.
use Rattle.std.proofs.Common.{◌≡◌, ◌⊎◌, inl, inr, ℕ, ◌+◌, Bool, true, false, if◌then◌else◌, refl, sym, ◌∙◌, ap, ap₂, subst, arith}
use Rattle.base_language.specs.Language.Expression.{Expression, PosPred, NegPred, Seq, Choice, Opt, Rep, RepOnce, RepExact, RepMin, RepMax, RepMinMax, Push, NodeTag, RestoreOnErr}
use Rattle.base_language.specs.Rewritings.Equality.{expression_eq, expression_eq-Decides}
use Rattle.base_language.specs.Rewritings.Listing.{listed}
use Rattle.base_language.specs.Rewritings.Listing.{listed_sequence}

-- how many nodes an expression has
abbrev size : Expression → ℕ
size (PosPred e) = size e + 1
size (NegPred e) = size e + 1
size (Seq a b) = size a + size b + 1
size (Choice a b) = size a + size b + 1
size (Opt e) = size e + 1
size (Rep e) = size e + 1
size (RepOnce e) = size e + 1
size (RepExact e i) = size e + 1
size (RepMin e i) = size e + 1
size (RepMax e i) = size e + 1
size (RepMinMax e i j) = size e + 1
size (Push e) = size e + 1
size (NodeTag e t) = size e + 1
size (RestoreOnErr e) = size e + 1
size _ = 1

-- a repetition of a sequence
abbrev IsTurns : Expression → Type 0
IsTurns a = (x : Expression) × (y : Expression) × (a ≡ Rep (Seq x y))

turns_or_not : (a : Expression) → IsTurns a ⊎ ((b : Expression) → listed_sequence a b ≡ Seq a b)
turns_or_not (Rep (Seq x y)) = inl (x, y, refl)
turns_or_not _ = inr (λ b. refl)

size-if : (x y z : Expression) (c : Bool) → expression_eq x z ≡ c → size (if c then Seq x (Rep (Seq y x)) else Seq (Rep (Seq x y)) z) ≡ size (Seq (Rep (Seq x y)) z)
size-if x y z true h = let e = ap size ((expression_eq-Decides x z).0 h) in omega (arith, e)
size-if x y z false h = refl

size-listed_sequence : (a b : Expression) → size (listed_sequence a b) ≡ size a + size b + 1
size-listed_sequence a b = go (turns_or_not a)
  where
    go : IsTurns a ⊎ ((b : Expression) → listed_sequence a b ≡ Seq a b) → size (listed_sequence a b) ≡ size a + size b + 1
    go (inl t) = subst (λ a. size (listed_sequence a b) ≡ size a + size b + 1) (sym t.2) (size-if t.0 t.1 b (expression_eq t.0 b) refl)
    go (inr f) = ap size (f b)

size-listed : (e : Expression) → size (listed e) ≡ size e
size-listed (PosPred e) = ap (λ n. n + 1) (size-listed e)
size-listed (NegPred e) = ap (λ n. n + 1) (size-listed e)
size-listed (Seq a b) = size-listed_sequence (listed a) (listed b) ∙ ap₂ (λ n m. n + m + 1) (size-listed a) (size-listed b)
size-listed (Choice a b) = ap₂ (λ n m. n + m + 1) (size-listed a) (size-listed b)
size-listed (Opt e) = ap (λ n. n + 1) (size-listed e)
size-listed (Rep e) = ap (λ n. n + 1) (size-listed e)
size-listed (RepOnce e) = ap (λ n. n + 1) (size-listed e)
size-listed (RepExact e i) = ap (λ n. n + 1) (size-listed e)
size-listed (RepMin e i) = ap (λ n. n + 1) (size-listed e)
size-listed (RepMax e i) = ap (λ n. n + 1) (size-listed e)
size-listed (RepMinMax e i j) = ap (λ n. n + 1) (size-listed e)
size-listed (Push e) = ap (λ n. n + 1) (size-listed e)
size-listed (NodeTag e t) = ap (λ n. n + 1) (size-listed e)
size-listed (RestoreOnErr e) = ap (λ n. n + 1) (size-listed e)
size-listed _ = refl

abbrev first_of_two : Expression → Expression
first_of_two (Seq a b) = a
first_of_two e = e

abbrev second_of_two : Expression → Expression
second_of_two (Seq a b) = b
second_of_two e = e

-- where a sequence stays as it is, so does its first side
pub listed_first : (x y : Expression) → listed (Seq x y) ≡ Seq x y → listed x ≡ x
listed_first x y h = go (turns_or_not (listed x))
  where
    either : (u v : Expression) → listed x ≡ Rep (Seq u v) → (c : Bool) → expression_eq u (listed y) ≡ c → (if c then Seq u (Rep (Seq v u)) else Seq (Rep (Seq u v)) (listed y)) ≡ Seq x y → listed x ≡ x
    either u v e true d k =
        let same_first = ap size (sym (ap first_of_two k)) in
        let same_second = ap size (ap second_of_two k) in
        let same_size = ap size ((expression_eq-Decides u (listed y)).0 d) in
        let kept = size-listed y in
        absurd (omega (arith, same_second, same_size, kept))
    either u v e false d k = e ∙ ap first_of_two k

    go : IsTurns (listed x) ⊎ ((b : Expression) → listed_sequence (listed x) b ≡ Seq (listed x) b) → listed x ≡ x
    go (inl t) = either t.0 t.1 t.2 (expression_eq t.0 (listed y)) refl (subst (λ a. listed_sequence a (listed y) ≡ Seq x y) t.2 h)
    go (inr f) = ap first_of_two (sym (f (listed y)) ∙ h)

-- the listing of `(x ~ y)* ~ x`, where there is nothing to list within `x ~ y`
pub listed-turns : (x y : Expression) → listed (Seq x y) ≡ Seq x y → listed (Seq (Rep (Seq x y)) x) ≡ Seq x (Rep (Seq y x))
listed-turns x y h =
    ap₂ (λ a b. listed_sequence (Rep a) b) h (listed_first x y h)
    ∙ ap (λ c. if c then Seq x (Rep (Seq y x)) else Seq (Rep (Seq x y)) x) ((expression_eq-Decides x x).1 refl)
