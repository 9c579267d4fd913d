-- The bytes of a text are bytes.
use Rattle.std.proofs.Common.{◌≡◌, refl, subst, ℕ, zero, suc, ◌+◌, ◌/◌, ◌<◌, List, [], ◌∷◌, ◌++◌, Bool, true, false, cond, get_or, inl, inr, arith}
use Rattle.std.specs.Prelude.{IsUtf8, encode_utf8, encode_utf8_all, ⊤}
use Rattle.std.proofs.Math.Utf8.{encode, next, scalar, scalar_cases, scalars}
use Rattle.std.proofs.Math.Dec.{ltb}
use Rattle.std.proofs.lemmas.Bool.{and_parts, ltb-true}

abbrev Small : List ℕ → Type 0
Small [] = ⊤
Small (x ∷ xs) = (x < 256) × Small xs

small_at : (xs : List ℕ) → Small xs → (i : ℕ) → get_or xs i 0 < 256
small_at [] h i = omega arith
small_at (x ∷ xs) h zero = h.0
small_at (x ∷ xs) h (suc i) = small_at xs h.1 i

small_append : (xs ys : List ℕ) → Small xs → Small ys → Small (xs ++ ys)
small_append [] ys h k = k
small_append (x ∷ xs) ys h k = (h.0, small_append xs ys h.1 k)

next_small : (c : ℕ) → next c < 256
next_small c = omega arith

small_one : (c : ℕ) → c < 1114112 → Small (encode_utf8 c)
unfolding encode
small_one c h = go (ltb c 128) (ltb c 2048) (ltb c 65536) refl refl refl
  where
    go : (x y z : Bool) → ltb c 128 ≡ x → ltb c 2048 ≡ y → ltb c 65536 ≡ z
        → Small (cond x (c ∷ []) (cond y ((192 + c / 64) ∷ next c ∷ []) (cond z ((224 + c / 4096) ∷ next (c / 64) ∷ next c ∷ []) ((240 + c / 262144) ∷ next (c / 4096) ∷ next (c / 64) ∷ next c ∷ []))))
    go true y z e f g = (let l : c < 128 = ltb-true c 128 e in omega (arith, l), tt)
    go false true z e f g = (let l : c < 2048 = ltb-true c 2048 f in omega (arith, l), (next_small c, tt))
    go false false true e f g = (let l : c < 65536 = ltb-true c 65536 g in omega (arith, l), (next_small (c / 64), (next_small c, tt)))
    go false false false e f g = (omega (arith, h), (next_small (c / 4096), (next_small (c / 64), (next_small c, tt))))

below : (c : ℕ) → scalar c ≡ true → c < 1114112
below c h = elim (scalar_cases c h) [ inl a ↦ omega (arith, a) | inr b ↦ b.1 ]

small_all : (cs : List ℕ) → scalars cs ≡ true → Small (encode_utf8_all cs)
small_all [] h = tt
small_all (c ∷ cs) h =
    let k = and_parts (scalar c) (scalars cs) h in
    small_append (encode_utf8 c) (encode_utf8_all cs) (small_one c (below c k.0)) (small_all cs k.1)

pub bytes_of_text : (text : List ℕ) → IsUtf8 text → (i : ℕ) → get_or text i 0 < 256
bytes_of_text text u i = subst (λ x. get_or x i 0 < 256) u.1.1 (small_at (encode_utf8_all u.0) (small_all u.0 u.1.0) i)
