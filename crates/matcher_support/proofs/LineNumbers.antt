-- Numbers that are written from the last to the first, among blanks.
use Rattle.std.proofs.Common.{◌≡◌, ◌∙◌, ap, ap₂, sym, ℕ, suc, ◌-◌, ◌<◌, ◌≤◌, ◌^◌, List, [], ◌∷◌, ◌++◌, append_assoc, arith, codes, drop, get_or, length, subst, take}
use Rattle.std.specs.Fmt.{decimal}
use Rattle.std.specs.Prelude.{IsUtf8, replicate}
use Rattle.std.proofs.Math.Seq.{drop-cons, take-length}
use Rattle.std.proofs.lemmas.Fmt.{IsAscii-decimal, length-decimal-le}
use Rattle.std.proofs.lemmas.Str.{IsUtf8-append, IsUtf8-from_ascii}
use Rattle.std.proofs.lemmas.Str.Ascii.{IsAscii-cons, IsAscii-nil}
use Rattle.std.proofs.lemmas.List.{get_or-replicate, get_or-take, length-drop}
use Rattle.matcher_support.specs.Lines.{numbers}

-- a number has at most 20 digits
pub short : (n : ℕ) → n < 2 ^ 64 → length (decimal n) ≤ 20
short n l = length-decimal-le 20 n (omega arith) (omega (arith, l)) l

-- a blank stands before what was written
abbrev pub HasBlank : List ℕ → ℕ → Type 0
HasBlank bytes at = (k : ℕ) → k < at → get_or bytes k 0 ≡ 32

pub all_blank : (bytes : List ℕ) → bytes ≡ replicate 64 32 → HasBlank bytes 64
all_blank bytes e k l = ap (λ bs. get_or bs k 0) e ∙ get_or-replicate 64 k 32 0 l

-- what is before a place stays
pub blanks_stay : (old new : List ℕ) (at : ℕ) → take at new ≡ take at old → HasBlank old at → HasBlank new at
blanks_stay old new at e h k l = sym (get_or-take at new k 0 l) ∙ (ap (λ bs. get_or bs k 0) e ∙ (get_or-take at old k 0 l ∙ h k l))

pub fewer_blanks : (bytes : List ℕ) (at less : ℕ) → less ≤ at → HasBlank bytes at → HasBlank bytes less
fewer_blanks bytes at less l h k m = h k (omega (arith, l, m))

-- the blank before a place, and what follows it
pub blank_before : (bytes : List ℕ) (at : ℕ) → 0 < at → at ≤ length bytes → HasBlank bytes at → drop (at - 1) bytes ≡ 32 ∷ drop at bytes
blank_before bytes at p l h =
    let z : suc (at - 1) ≡ at = omega (arith, p) in
    drop-cons bytes (at - 1) 0 (omega (arith, p, l)) ∙ ap₂ (λ x k. x ∷ drop k bytes) (h (at - 1) (omega (arith, p))) z

-- the three numbers, each with a blank behind it
pub three_numbers : (i j depth : ℕ) (a b c : List ℕ) → a ≡ decimal depth ++ codes " " → b ≡ decimal j ++ (32 ∷ a) → c ≡ decimal i ++ (32 ∷ b) → c ≡ numbers i j depth
three_numbers i j depth a b c e f g =
    let z = codes " " in
    let di = decimal i in
    let dj = decimal j in
    let dd = decimal depth in
    g ∙ (ap (λ t. di ++ (32 ∷ t)) (f ∙ ap (λ t. dj ++ (32 ∷ t)) e)
    ∙ sym (append_assoc (di ++ z ++ dj ++ z) dd z ∙ (append_assoc (di ++ z ++ dj) z (dd ++ z) ∙ (append_assoc (di ++ z) dj (z ++ (dd ++ z)) ∙ append_assoc di z (dj ++ (z ++ (dd ++ z)))))))

blank_utf8 : IsUtf8 (codes " ")
blank_utf8 = IsUtf8-from_ascii (codes " ") (IsAscii-cons 32 [] (omega arith) IsAscii-nil)

decimal_utf8 : (n : ℕ) → n < 2 ^ 64 → IsUtf8 (decimal n)
decimal_utf8 n l = IsUtf8-from_ascii (decimal n) (IsAscii-decimal n l)

-- numbers are text
pub numbers_utf8 : (i j depth : ℕ) → i < 2 ^ 64 → j < 2 ^ 64 → depth < 2 ^ 64 → IsUtf8 (numbers i j depth)
numbers_utf8 i j depth p q r =
    IsUtf8-append _ _ (IsUtf8-append _ _ (IsUtf8-append _ _ (IsUtf8-append _ _ (IsUtf8-append _ _ (decimal_utf8 i p) blank_utf8) (decimal_utf8 j q)) blank_utf8) (decimal_utf8 depth r)) blank_utf8

-- so is the end of the bytes that has them
pub end_utf8 : (bytes : List ℕ) (start i j depth : ℕ) → length bytes ≡ 64 → drop start bytes ≡ numbers i j depth → i < 2 ^ 64 → j < 2 ^ 64 → depth < 2 ^ 64 → IsUtf8 (take (64 - start) (drop start bytes))
end_utf8 bytes start i j depth l e p q r =
    let z : 64 - start ≡ length (drop start bytes) = omega (arith, l, length-drop start bytes) in
    subst IsUtf8 (sym (ap (λ k. take k (drop start bytes)) z ∙ (take-length (drop start bytes) ∙ e))) (numbers_utf8 i j depth p q r)
