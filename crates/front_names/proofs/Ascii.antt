-- Names of ASCII characters are compared by their characters as by their bytes.
use Rattle.std.proofs.Common.{◌≡◌, ◌∙◌, List, [], ◌∷◌, Bool, true, ◌&&◌, ◌||◌, ℕ, refl, sym, ap, ap₂, ltb-true, nat_lt, bytes_eq}
use Rattle.std.proofs.Math.Utf8.{encodes}
use Rattle.std.proofs.lemmas.Bool.Decides.{same_from_decides}
use Rattle.std.proofs.lemmas.Bool.{and_parts}
use Rattle.std.proofs.lemmas.Slice.Eq.{bytes_eq-Decides}
use Rattle.std.proofs.lemmas.Str.{chars-IsAscii, encodes-chars, IsUtf8-from_ascii}
use Rattle.std.proofs.lemmas.Str.Ascii.{IsAscii-cons, IsAscii-nil}
use Rattle.std.specs.Bool.{Decides}
use Rattle.std.specs.Str.{IsAscii, IsUtf8, chars}
use Rattle.base_language.specs.Language.Text.{Text}
use Rattle.base_language.specs.Language.Builtins.{is_one_of}

abbrev pub is_ascii : Text → Bool
is_ascii [] = true
is_ascii (c ∷ t) = nat_lt c 128 && is_ascii t

abbrev pub are_ascii : List Text → Bool
are_ascii [] = true
are_ascii (t ∷ ts) = is_ascii t && are_ascii ts

of_ascii : (t : Text) → is_ascii t ≡ true → IsAscii t
of_ascii [] h = IsAscii-nil
of_ascii (c ∷ t) h = let (i, k) = and_parts (nat_lt c 128) (is_ascii t) h in IsAscii-cons c t (ltb-true c 128 i) (of_ascii t k)

-- an ASCII text has its bytes as characters
pub ascii_chars : (t : Text) → is_ascii t ≡ true → chars t ≡ t
ascii_chars t h = chars-IsAscii t (of_ascii t h)

pub same_name : (t b : List ℕ) → is_ascii t ≡ true → IsUtf8 b → bytes_eq t b ≡ bytes_eq t (chars b)
same_name t b h u =
    let a = of_ascii t h in
    let d = bytes_eq-Decides t b in
    let e : Decides (bytes_eq t b) (t ≡ chars b) = ((λ k. sym (chars-IsAscii t a) ∙ ap chars (d.0 k)), (λ k. d.1 (sym (encodes-chars t (IsUtf8-from_ascii t a)) ∙ (ap encodes (chars-IsAscii t a ∙ k) ∙ encodes-chars b u)))) in
    same_from_decides _ _ e (bytes_eq-Decides t (chars b))

pub one_of_same : (ts : List Text) (b : List ℕ) → are_ascii ts ≡ true → IsUtf8 b → is_one_of ts b ≡ is_one_of ts (chars b)
one_of_same [] b h u = refl
one_of_same (t ∷ ts) b h u = let (i, k) = and_parts (is_ascii t) (are_ascii ts) h in ap₂ ◌||◌ (same_name t b i u) (one_of_same ts b k u)
