-- What is read from the front of bytes.
use Rattle.std.proofs.Common.{◌≡◌, ◌∙◌, ℕ, ℤ, ◌<◌, ◌^◌, List, ◌++◌, ap, ap₂, arith, drop, get_or, length, refl, sym, take}
use Rattle.std.proofs.lemmas.Int.{of_z-to_z}
use Rattle.std.proofs.lemmas.List.{take-append-drop}
use Rattle.std.proofs.lemmas.Nat.{le_bytes_4}
use Rattle.std.specs.Int.{cast_signed, cast_unsigned, from_le_bytes, to_le_bytes, w32}
use Rattle.format_binary.specs.Format.{index_bytes}

pub front : (k : ℕ) (old first bytes rest : List ℕ) → bytes ≡ take k old → rest ≡ drop k old → first ≡ bytes → old ≡ first ++ rest
front k old first bytes rest b r e = sym (ap₂ (λ x y. x ++ y) (e ∙ b) r ∙ take-append-drop k old)

-- the bits of an index that was read
below : (bytes : List ℕ) → ((i : ℕ) → get_or bytes i 0 < 256) → from_le_bytes w32 bytes < 2 ^ 32
below bytes small = let a = small 0 in let b = small 1 in let c = small 2 in let d = small 3 in omega (arith, a, b, c, d)

pub index_back : (bytes : List ℕ) (z : ℤ) → length bytes ≡ 4 → ((i : ℕ) → get_or bytes i 0 < 256) → z ≡ cast_signed w32 (from_le_bytes w32 bytes) → index_bytes (cast_signed w32 (cast_unsigned w32 z)) ≡ bytes
unfolding index_bytes
index_back bytes z four small e =
    let n = from_le_bytes w32 bytes in
    let fit = below bytes small in
    let once : cast_unsigned w32 z ≡ n = ap (cast_unsigned w32) e ∙ of_z-to_z w32 n fit in
    let twice : cast_unsigned w32 (cast_signed w32 (cast_unsigned w32 z)) ≡ n = ap (λ m. cast_unsigned w32 (cast_signed w32 m)) once ∙ of_z-to_z w32 n fit in
    ap (to_le_bytes w32) twice ∙ le_bytes_4 bytes n four small refl
