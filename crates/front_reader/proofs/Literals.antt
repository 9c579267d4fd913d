-- Literals, read from their front.
use Rattle.std.proofs.Common.{◌≡◌, ◌≢◌, inl, inr, ℕ, List, [], ◌∷◌, ◌++◌, length, refl, sym, ap, ◌∙◌, arith, append_assoc, append-nil, chars}
use Rattle.std.proofs.lemmas.Bool.{ne_eqb}
use Rattle.std.proofs.lemmas.Str.{chars-append, chars_past_char, chars-nil, IsUtf8-encode}
use Rattle.std.proofs.Math.Utf8.{scalar_cases}
use Rattle.std.specs.Char.{IsScalar}
use Rattle.std.specs.Prelude.{encode_utf8}
use Rattle.std.specs.Str.{all_scalars, IsUtf8}
use Rattle.front_reader.specs.Literal.{unescaped, escape, digits, extended}
use Rattle.front_reader.specs.Views.{IsSameNumber}

pub chars_empty : (bs : List ℕ) → length bs ≡ 0 → chars bs ≡ []
chars_empty [] h = chars-nil
chars_empty (b ∷ bs) h = absurd (omega (arith, h))

pub digits_step : (n c : ℕ) (t : List ℕ) → c ≢ 125 → digits n (c ∷ t) ≡ digits (extended n c) t
digits_step n c t h = let e = ne_eqb c 125 h in rw e

pub unescaped_plain : (c : ℕ) (t : List ℕ) → c ≢ 92 → unescaped (c ∷ t) ≡ c ∷ unescaped t
unescaped_plain c t h = let e = ne_eqb c 92 h in rw e

-- a scalar value is the number that it is the same as
pub scalar_same : (v n : ℕ) → IsScalar v → IsSameNumber v n → v ≡ n
scalar_same v n h (inl e) = e
scalar_same v n h (inr e) = absurd (omega (arith, scalar_cases v h, e.0))

pub chars-push : (bs : List ℕ) (c : ℕ) → IsUtf8 bs → IsScalar c
    → chars (bs ++ encode_utf8 c) ≡ chars bs ++ c ∷ []
chars-push bs c u h =
    let e = chars_past_char (encode_utf8 c) [] c (IsUtf8-encode c h) (sym (append-nil (encode_utf8 c))) in
    chars-append bs (encode_utf8 c) u ∙ ap (λ t. chars bs ++ t) (e ∙ ap (λ t. c ∷ t) chars-nil)

-- one more character is read: what is read, with what is left
pub character_step : (u v bs new : List ℕ) (c : ℕ) → IsUtf8 bs → IsScalar c → u ≡ chars bs ++ c ∷ v
    → new ≡ bs ++ encode_utf8 c → u ≡ chars new ++ v
character_step u v bs new c t h e f = e ∙ sym (rw (f, chars-push bs c t h) (append_assoc (chars bs) (c ∷ []) v))

pub scalar_step : (c : ℕ) (v : List ℕ) → IsScalar c → all_scalars (c ∷ v) ≡ all_scalars v
scalar_step c v h = rw h refl

pub unescaped_escape : (c : ℕ) (t : List ℕ) → c ≡ 92 → unescaped (c ∷ t) ≡ escape t
unescaped_escape c t e = rw e refl
