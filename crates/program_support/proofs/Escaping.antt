-- Texts that are written character by character.
use Rattle.std.proofs.Common.{◌≡◌, ◌∙◌, ℕ, List, [], ◌∷◌, ◌++◌, length, take, drop, ap, sym, append_assoc, encode_utf8_all}
use Rattle.std.proofs.lemmas.Grind.{flat_map-append}
use Rattle.std.proofs.lemmas.List.{append-nil}
use Rattle.std.proofs.lemmas.Str.{encodes-append}
use Rattle.std.proofs.lemmas.Iterator.{YieldsList}
use Rattle.std.proofs.lemmas.Iterator.Consumers.{YieldsList-from_shown}
use Rattle.std.specs.Char.Iter.{escape_rest, escape_steps}
use Rattle.std.specs.List.{flat_map}

-- a text that ends with some characters, and then with more
pub text_more : (text before after xs ys zs : List ℕ) → before ≡ text ++ encode_utf8_all xs
    → after ≡ before ++ encode_utf8_all ys → xs ++ ys ≡ zs → after ≡ text ++ encode_utf8_all zs
text_more text before after xs ys zs first then same =
    then ∙ ap (λ t. t ++ encode_utf8_all ys) first ∙ append_assoc text (encode_utf8_all xs) (encode_utf8_all ys)
    ∙ ap (λ t. text ++ t) (sym (encodes-append xs ys) ∙ ap (λ t. encode_utf8_all t) same)

pub flat_map_one_more : (f : ℕ → List ℕ) (xs : List ℕ) (x : ℕ) → flat_map f xs ++ f x ≡ flat_map f (xs ++ x ∷ [])
flat_map_one_more f xs x =
    ap (λ t. flat_map f xs ++ t) (sym (append-nil (f x))) ∙ sym (flat_map-append f xs (x ∷ []))

-- one character more of a text that began empty
pub one_more : (f : ℕ → List ℕ) (before after xs : List ℕ) (x : ℕ) (ys : List ℕ) → before ≡ encode_utf8_all (flat_map f xs)
    → after ≡ before ++ encode_utf8_all ys → ys ≡ f x → after ≡ encode_utf8_all (flat_map f (xs ++ x ∷ []))
one_more f before after xs x ys first then same =
    text_more [] before after (flat_map f xs) ys _ first then (ap (λ t. flat_map f xs ++ t) same ∙ flat_map_one_more f xs x)

-- the escape of a character yields the rest of it
pub escape_yields : (s : _) → YieldsList escape_steps (λ x. x) s (escape_rest s)
escape_yields s =
    YieldsList-from_shown escape_steps (λ x. x) escape_rest
    (λ t u h. ap (λ k. length (take k (drop t.from t.chars))) h.1.0)
    (λ t x u h. h.1.0) s
