-- Texts that are written character by character.
use Rattle.std.proofs.Common.{◌≡◌, ℕ, List, [], ◌∷◌, ◌++◌, ap, sym, ◌∙◌, append_assoc, encode_utf8_all}
use Rattle.std.proofs.Math.Utf8.{encode, encodes}
use Rattle.std.proofs.lemmas.Grind.{flat_map-append}
use Rattle.std.proofs.lemmas.List.{append-nil}
use Rattle.std.proofs.lemmas.Str.{encodes-append}
use Rattle.std.specs.List.{flat_map}

-- a page that ends with some characters, and then with more
pub page_more : (page before after xs ys zs : List ℕ) → before ≡ page ++ encode_utf8_all xs
    → after ≡ before ++ encode_utf8_all ys → xs ++ ys ≡ zs → after ≡ page ++ encode_utf8_all zs
page_more page before after xs ys zs first then same =
    then ∙ ap (λ t. t ++ encode_utf8_all ys) first ∙ append_assoc page (encode_utf8_all xs) (encode_utf8_all ys)
    ∙ ap (λ t. page ++ t) (sym (encodes-append xs ys) ∙ ap (λ t. encode_utf8_all t) same)

-- the same of bytes
pub bytes_more : (page before after xs ys zs : List ℕ) → before ≡ page ++ xs → after ≡ before ++ ys → xs ++ ys ≡ zs
    → after ≡ page ++ zs
bytes_more page before after xs ys zs first then same =
    then ∙ ap (λ t. t ++ ys) first ∙ append_assoc page xs ys ∙ ap (λ t. page ++ t) same

-- one element more
pub flat_map_one_more : (f : ℕ → List ℕ) (xs : List ℕ) (x : ℕ)
    → flat_map f xs ++ f x ≡ flat_map f (xs ++ x ∷ [])
flat_map_one_more f xs x =
    ap (λ t. flat_map f xs ++ t) (sym (append-nil (f x))) ∙ sym (flat_map-append f xs (x ∷ []))

-- a page that gains one piece after another
pub three_more : (p q r s a b c : List ℕ) → q ≡ p ++ a → r ≡ q ++ b → s ≡ r ++ c → s ≡ p ++ (a ++ b ++ c)
three_more p q r s a b c x y z =
    z ∙ ap (λ t. t ++ c) (y ∙ ap (λ t. t ++ b) x ∙ append_assoc p a b) ∙ append_assoc p (a ++ b) c

pub five_more : (p q r s t u a b c d e : List ℕ) → q ≡ p ++ a → r ≡ q ++ b → s ≡ r ++ c → t ≡ s ++ d → u ≡ t ++ e
    → u ≡ p ++ (a ++ b ++ c ++ d ++ e)
five_more p q r s t u a b c d e x y z v w =
    three_more p s t u (a ++ b ++ c) d e (three_more p q r s a b c x y z) v w
