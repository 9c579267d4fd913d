-- Names of wrappers as bytes.
use Rattle.std.proofs.Common.{◌≡◌, ◌<◌, ◌^◌, refl, sym, ◌∙◌, ap, subst, ℕ, zero, suc, List, [], ◌∷◌, ◌++◌, ◌==◌, Some, None, take, drop, append_assoc, arith}
use Rattle.std.specs.Char.{encode_utf8}
use Rattle.std.specs.Fmt.{decimal}
use Rattle.std.specs.Str.{chars, IsAscii, IsUtf8, NonePass, NoCharPasses, encode_utf8_all}
use Rattle.std.specs.Str.Pattern.{HasCharAt}
use Rattle.std.proofs.lemmas.List.{take-append-drop}
use Rattle.std.proofs.lemmas.Fmt.{IsAscii-decimal}
use Rattle.std.proofs.lemmas.Str.{chars-IsAscii, chars-append, chars_past_char, chars_from_encodes, IsAscii-append, IsUtf8-from_ascii, IsUtf8-past_char}
use Rattle.base_language.specs.Language.Text.{Text}
use Rattle.matcher_support.specs.Names.{tag_in}

no_tag_in : (cs : Text) → NonePass (λ d. d == 35) cs → tag_in cs ≡ None
no_tag_in [] n = refl
no_tag_in (c ∷ cs) n = rw n.0 (no_tag_in cs n.1)

-- a text without `#`
pub no_tag : (bs : List ℕ) → IsUtf8 bs → NoCharPasses (λ d. d == 35) bs → tag_in (chars bs) ≡ None
no_tag bs u n = subst (λ z. tag_in z ≡ None) (chars_from_encodes n.0 bs u n.1) (no_tag_in n.0 n.2)

tag_past : (cs bs rest : List ℕ) → IsUtf8 bs → bs ≡ encode_utf8_all cs ++ (encode_utf8 35 ++ rest) → NonePass (λ d. d == 35) cs
    → tag_in (chars bs) ≡ Some (chars rest)
tag_past [] bs rest u e n = ap tag_in (chars_past_char bs rest 35 u e)
tag_past (c ∷ cs) bs rest u e n =
    let more = encode_utf8_all cs ++ (encode_utf8 35 ++ rest) in
    let f : bs ≡ encode_utf8 c ++ more = e ∙ append_assoc (encode_utf8 c) (encode_utf8_all cs) (encode_utf8 35 ++ rest) in
    ap tag_in (chars_past_char bs more c u f) ∙ rw n.0 (tag_past cs more rest (IsUtf8-past_char bs more c u f) refl n.1)

-- what follows the first `#`
pub tag_found : (bs : List ℕ) (i j : ℕ) → IsUtf8 bs → NoCharPasses (λ d. d == 35) (take i bs) → HasCharAt 35 bs i j
    → tag_in (chars bs) ≡ Some (chars (drop j bs))
tag_found bs i j u n h =
    tag_past n.0 bs (drop j bs) u
    (sym (take-append-drop i bs) ∙ (ap (λ z. z ++ drop i bs) (sym n.1) ∙ ap (λ z. encode_utf8_all n.0 ++ z) h.split)) n.2

one_ascii : IsAscii (35 ∷ [])
one_ascii zero = omega arith
one_ascii (suc i) = omega arith

-- a number, `#` and a text
pub named_text : (k : ℕ) (t : List ℕ) → k < 2 ^ 64 → chars (decimal k ++ (35 ∷ t)) ≡ decimal k ++ 35 ∷ chars t
named_text k t h =
    let a = IsAscii-append (decimal k) (35 ∷ []) (IsAscii-decimal k h) one_ascii in
    let front = decimal k ++ 35 ∷ [] in
    ap chars (sym (append_assoc (decimal k) (35 ∷ []) t))
    ∙ (chars-append front t (IsUtf8-from_ascii front a)
    ∙ (ap (λ z. z ++ chars t) (chars-IsAscii front a) ∙ append_assoc (decimal k) (35 ∷ []) (chars t)))
