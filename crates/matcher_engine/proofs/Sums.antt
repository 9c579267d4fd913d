-- Bytes that differ in one have different sums: a step of the checksum can be taken back.
use Rattle.std.proofs.Common.{◌≡◌, sym, ◌∙◌, ap, ℕ, suc, ◌+◌, ◌*◌, ◌%◌, ◌^◌, ◌<◌, List, [], ◌∷◌, ◌++◌, arith}
use Rattle.std.specs.Prelude.{All, bit_xor, fold}
use Rattle.std.specs.Int.Bits.{xor_assoc, xor_self, xor_zero_l, xor_zero_r}
use Rattle.std.proofs.lemmas.List.Sums.{fold-append}
use Rattle.std.proofs.lemmas.Nat.{mod-mul-add, mod_below, mul-mod_first, xor_lt}
use Rattle.matcher_engine.specs.Blocks.{next_checksum, checksum_of}

-- the factor has an inverse
inverse : (y : ℕ) → y < 2 ^ 64 → (y * 1099511628211 % 2 ^ 64) * 14886173955864302971 % 2 ^ 64 ≡ y
inverse y l =
    let e : y * 1099511628211 * 14886173955864302971 ≡ (y * 887285111055) * 2 ^ 64 + y = omega arith in
    mul-mod_first (y * 1099511628211) 14886173955864302971 (2 ^ 64)
    ∙ (ap (λ z. z % 2 ^ 64) e ∙ mod-mul-add (y * 887285111055) (2 ^ 64) y l)

one_factor : (x y : ℕ) → x < 2 ^ 64 → y < 2 ^ 64 → x * 1099511628211 % 2 ^ 64 ≡ y * 1099511628211 % 2 ^ 64 → x ≡ y
one_factor x y l k e = sym (inverse x l) ∙ (ap (λ z. z * 14886173955864302971 % 2 ^ 64) e ∙ inverse y k)

wide : (x : ℕ) → x < 256 → x < 2 ^ 64
wide x l = omega (arith, l)

-- a step from two sums
same_before : (s t x : ℕ) → s < 2 ^ 64 → t < 2 ^ 64 → x < 256 → next_checksum s x ≡ next_checksum t x → s ≡ t
same_before s t x ls lt lx e =
    let f : bit_xor s x ≡ bit_xor t x = one_factor _ _ (xor_lt 64 s x ls (wide x lx)) (xor_lt 64 t x lt (wide x lx)) e in
    let back : (n : ℕ) → bit_xor (bit_xor n x) x ≡ n = λ n. xor_assoc n x x ∙ (ap (bit_xor n) (xor_self x) ∙ xor_zero_r n) in
    sym (back s) ∙ (ap (λ z. bit_xor z x) f ∙ back t)

-- a step with two bytes
same_byte : (s a b : ℕ) → s < 2 ^ 64 → a < 256 → b < 256 → next_checksum s a ≡ next_checksum s b → a ≡ b
same_byte s a b ls la lb e =
    let f : bit_xor s a ≡ bit_xor s b = one_factor _ _ (xor_lt 64 s a ls (wide a la)) (xor_lt 64 s b ls (wide b lb)) e in
    let back : (n : ℕ) → bit_xor s (bit_xor s n) ≡ n = λ n. sym (xor_assoc s s n) ∙ (ap (λ z. bit_xor z n) (xor_self s) ∙ xor_zero_l n) in
    sym (back a) ∙ (ap (bit_xor s) f ∙ back b)

below : (s x : ℕ) → next_checksum s x < 2 ^ 64
below s x = mod_below (bit_xor s x * 1099511628211) (2 ^ 64) (omega arith)

all_below : (xs : List ℕ) (s : ℕ) → s < 2 ^ 64 → fold next_checksum s xs < 2 ^ 64
all_below [] s l = l
all_below (x ∷ xs) s l = all_below xs (next_checksum s x) (below s x)

-- steps from two sums
same_start : (xs : List ℕ) (s t : ℕ) → All (λ x. x < 256) xs → s < 2 ^ 64 → t < 2 ^ 64 → fold next_checksum s xs ≡ fold next_checksum t xs → s ≡ t
same_start [] s t h ls lt e = e
same_start (x ∷ xs) s t h ls lt e =
    same_before s t x ls lt (h 0 0 (omega arith))
    (same_start xs (next_checksum s x) (next_checksum t x) (λ k d l. h (suc k) d (omega (arith, l))) (below s x) (below t x) e)

pub one_byte : (front rest : List ℕ) (a b : ℕ) → All (λ x. x < 256) rest → a < 256 → b < 256 → checksum_of (front ++ a ∷ rest) ≡ checksum_of (front ++ b ∷ rest) → a ≡ b
unfolding checksum_of
one_byte front rest a b h la lb e =
    let s = fold next_checksum 14695981039346656037 front in
    let ls : s < 2 ^ 64 = all_below front 14695981039346656037 (omega arith) in
    let f : fold next_checksum (next_checksum s a) rest ≡ fold next_checksum (next_checksum s b) rest =
    sym (fold-append next_checksum 14695981039346656037 front (a ∷ rest)) ∙ (e ∙ fold-append next_checksum 14695981039346656037 front (b ∷ rest)) in
    same_byte s a b ls la lb (same_start rest (next_checksum s a) (next_checksum s b) h (below s a) (below s b) f)
