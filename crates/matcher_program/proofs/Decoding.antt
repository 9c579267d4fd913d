-- Characters of texts.
use Rattle.std.proofs.Common.{◌≡◌, refl, ℕ, List, [], ◌∷◌, length, arith}
use Rattle.std.specs.Str.{chars, chars_after, continuation_len, lead_bits}

-- the characters of a text, as `chars`, but open to every proof
abbrev pub decoded : List ℕ → List ℕ
decoded [] = []
decoded (b ∷ bs) = chars_after (continuation_len b) (lead_bits b) bs

pub decoded_chars : (bs : List ℕ) → decoded bs ≡ chars bs
unfolding chars
decoded_chars [] = refl
decoded_chars (b ∷ bs) = refl

pub chars_empty : (bs : List ℕ) → length bs ≡ 0 → chars bs ≡ []
unfolding chars
chars_empty [] h = refl
chars_empty (b ∷ bs) h = absurd (omega arith)
