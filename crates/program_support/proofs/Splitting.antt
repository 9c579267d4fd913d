-- Texts that are split after some of their characters.
use Rattle.std.proofs.Common.{◌≡◌, ◌∙◌, ℕ, ◌+◌, ◌≤◌, List, [], ◌∷◌, ◌++◌, length, take, drop, ap, arith, encode_utf8_all, refl, sym, true}
use Rattle.std.proofs.Math.Seq.{take-append_seam}
use Rattle.std.proofs.Math.Utf8.{scalars}
use Rattle.std.proofs.Math.Utf8.{encode}
use Rattle.std.proofs.lemmas.List.{append-nil, length-append, take-append-drop}
use Rattle.std.proofs.lemmas.Str.{IsCharBoundary-at_seam, chars-encodes, encodes-append, encodes-chars, length-encode, scalars-chars}
use Rattle.std.specs.Char.{len_utf8}
use Rattle.std.specs.Str.{IsCharBoundary, IsUtf8, chars}
use Rattle.base_language.proofs.Beginnings.{scalars_parts}

-- a text is the bytes of its first characters, and those of the others
pub in_two : (text : List ℕ) (count : ℕ) → IsUtf8 text
    → text ≡ encode_utf8_all (take count (chars text)) ++ encode_utf8_all (drop count (chars text))
in_two text count utf8 =
    sym (encodes-chars text utf8) ∙ ap encode_utf8_all (sym (take-append-drop count (chars text)))
    ∙ encodes-append (take count (chars text)) (drop count (chars text))

-- both parts are characters
scalars_of : (text : List ℕ) (count : ℕ) → IsUtf8 text
    → (scalars (take count (chars text)) ≡ true) × (scalars (drop count (chars text)) ≡ true)
scalars_of text count utf8 =
    scalars_parts (take count (chars text)) (drop count (chars text))
    (ap scalars (take-append-drop count (chars text)) ∙ scalars-chars text utf8)

-- a text may be cut after its first characters
pub boundary_after : (text : List ℕ) (count : ℕ) → IsUtf8 text
    → IsCharBoundary text (length (encode_utf8_all (take count (chars text))))
boundary_after text count utf8 =
    IsCharBoundary-at_seam text (encode_utf8_all (take count (chars text))) (encode_utf8_all (drop count (chars text)))
    (in_two text count utf8) (drop count (chars text), ((scalars_of text count utf8).1, refl))

-- what stands before that place has these characters
pub chars_before : (text : List ℕ) (count : ℕ) → IsUtf8 text
    → chars (take (length (encode_utf8_all (take count (chars text)))) text) ≡ take count (chars text)
chars_before text count utf8 =
    let front = encode_utf8_all (take count (chars text)) in
    let back = encode_utf8_all (drop count (chars text)) in
    ap (λ t. chars (take (length front) t)) (in_two text count utf8)
    ∙ ap chars (take-append_seam front back)
    ∙ chars-encodes (take count (chars text)) (scalars_of text count utf8).0

-- the first characters have no more bytes than the text
pub bytes_before : (text : List ℕ) (count : ℕ) → IsUtf8 text
    → length (encode_utf8_all (take count (chars text))) ≤ length text
bytes_before text count utf8 =
    let front = encode_utf8_all (take count (chars text)) in
    let back = encode_utf8_all (drop count (chars text)) in
    omega (arith, ap length (in_two text count utf8) ∙ length-append front back)

-- the bytes of characters, and of one more
pub bytes_more : (xs : List ℕ) (c : ℕ)
    → length (encode_utf8_all (xs ++ c ∷ [])) ≡ length (encode_utf8_all xs) + len_utf8 c
bytes_more xs c =
    ap length (encodes-append xs (c ∷ [])) ∙ length-append (encode_utf8_all xs) (encode_utf8_all (c ∷ []))
    ∙ ap (λ n. length (encode_utf8_all xs) + n) (ap length (append-nil (encode c)) ∙ length-encode c)
