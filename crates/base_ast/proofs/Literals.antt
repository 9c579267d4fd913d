-- What is written of a literal, piece by piece.
use Rattle.std.proofs.Common.{◌≡◌, ℕ, ◌/◌, ◌%◌, ◌^◌, ◌-◌, ◌<◌, false, [], ◌∷◌, ◌++◌, codes, ap, sym, ◌∙◌, arith, lit<}
use Rattle.std.proofs.Math.Utf8.{encode, encodes}
use Rattle.std.proofs.lemmas.Bool.Decides.{nat_tests}
use Rattle.std.proofs.lemmas.Fmt.{hex_byte}
use Rattle.std.proofs.lemmas.Grind.{flat_map-append}
use Rattle.std.proofs.lemmas.List.{append-nil}
use Rattle.std.proofs.lemmas.Str.{encodes-append, encodes-IsAscii, IsAscii-append}
use Rattle.std.proofs.lemmas.Str.Ascii.{IsAscii-cons, IsAscii-nil}
use Rattle.std.specs.Fmt.{padded_integral, format_spec, digits}
use Rattle.std.specs.List.{flat_map}
use Rattle.std.specs.Str.{IsAscii}
use Rattle.base_language.specs.Language.Text.{Text}
use Rattle.base_ast.specs.Printing.{hex_digit, numbered, escaped, literal}

hex_digit-lt : (d : ℕ) → d < 16 → hex_digit d < 128
hex_digit-lt d h = grind (arith, nat_tests)

numbered-IsAscii : (c : ℕ) → c < 256 → IsAscii (numbered c)
numbered-IsAscii c h =
    let high : c / 16 < 16 = omega arith in
    let low : c % 16 < 16 = omega arith in
    let end = codes "}" in
    let digits = hex_digit (c / 16) ∷ hex_digit (c % 16) ∷ end in
    let low_end = IsAscii-cons (hex_digit (c % 16)) end (hex_digit-lt (c % 16) low) (IsAscii-cons 125 [] (lit< tt) IsAscii-nil) in
    IsAscii-append (codes "\\u{") digits opening (IsAscii-cons (hex_digit (c / 16)) (hex_digit (c % 16) ∷ end) (hex_digit-lt (c / 16) high) low_end)
  where
    opening : IsAscii (codes "\\u{")
    opening = IsAscii-cons 92 (117 ∷ 123 ∷ []) (lit< tt) (IsAscii-cons 117 (123 ∷ []) (lit< tt) (IsAscii-cons 123 [] (lit< tt) IsAscii-nil))

-- what `\u{{{:02x}}}` writes of a number below 256
pub encodes-numbered : (c : ℕ) → c < 256
    → encodes (numbered c) ≡ codes "\\u{" ++ (padded_integral (format_spec 32 0 4 2 (2 ^ 64 - 1)) false [] (digits 16 false c) ++ codes "}")
encodes-numbered c h =
    encodes-IsAscii (numbered c) (numbered-IsAscii c h)
    ∙ ap (λ t. codes "\\u{" ++ (t ++ codes "}")) (sym (hex_byte false c h))

-- the quote and some characters, and one more
pub literal_more : (q : ℕ) (cs : Text) (c : ℕ)
    → encodes (q ∷ flat_map (escaped q) cs) ++ encodes (escaped q c) ≡ encodes (q ∷ flat_map (escaped q) (cs ++ c ∷ []))
literal_more q cs c =
    sym (encodes-append (q ∷ flat_map (escaped q) cs) (escaped q c))
    ∙ ap (λ t. encodes (q ∷ t)) (ap (λ t. flat_map (escaped q) cs ++ t) (sym (append-nil (escaped q c))) ∙ sym (flat_map-append (escaped q) cs (c ∷ [])))

-- the quote and all characters, and the quote again
pub literal_end : (q : ℕ) (cs : Text) → encodes (q ∷ flat_map (escaped q) cs) ++ encode q ≡ encodes (literal q cs)
literal_end q cs =
    ap (λ t. encodes (q ∷ flat_map (escaped q) cs) ++ t) (sym (append-nil (encode q)))
    ∙ sym (encodes-append (q ∷ flat_map (escaped q) cs) (q ∷ []))
