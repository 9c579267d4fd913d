-- Strings and their characters.
use Rattle.std.proofs.Common.{◌≡◌, ℕ, bytes_eq, nat_eq, List, [], ◌∷◌, map, sym, ap, ◌∙◌, refl, string_bytes, String, Global}
use Rattle.std.specs.Bool.{Decides}
use Rattle.std.specs.Cmp.{unsigned_Decides}
use Rattle.std.specs.Str.{chars, IsAscii, IsUtf8}
use Rattle.std.specs.String.{string_eq}
use Rattle.std.specs.List.{AllZip}
use Rattle.std.proofs.lemmas.Bool.Decides.{same_from_decides}
use Rattle.std.proofs.lemmas.Str.{encodes-chars, IsUtf8-string_bytes, IsUtf8-from_ascii, chars-IsAscii}
use Rattle.std.proofs.lemmas.Slice.Eq.{slice_eq-Decides, bytes_eq-Decides}
use Rattle.std.proofs.Math.Utf8.{encodes}
use lib.Pointwise.{pointwise}
use Rattle.base_ast.specs.Ast.{text_of}
use Rattle.base_language.specs.Rewritings.Equality.{text_eq, texts_eq, text_eq-Decides}

-- a string's bytes are those of its characters
pub encodes-text_of : (s : String Global) → encodes (text_of s) ≡ string_bytes s
encodes-text_of s = encodes-chars (string_bytes s) (IsUtf8-string_bytes s)

pub string_eq-text_of : (s t : String Global) → string_eq s t ≡ text_eq (text_of s) (text_of t)
string_eq-text_of s t =
    let d = slice_eq-Decides unsigned_Decides (string_bytes s) (string_bytes t) _ refl in
    let e : Decides (string_eq s t) (text_of s ≡ text_of t) = ((λ h. ap chars (d.0 h)), (λ h. d.1 (sym (encodes-text_of s) ∙ ap encodes h ∙ encodes-text_of t))) in
    same_from_decides _ _ e (text_eq-Decides (text_of s) (text_of t))

pub strings_eq-text_of : (ss ts : List (String Global)) → pointwise string_eq ss ts ≡ texts_eq (map text_of ss) (map text_of ts)
strings_eq-text_of [] [] = refl
strings_eq-text_of [] (t ∷ ts) = refl
strings_eq-text_of (s ∷ ss) [] = refl
strings_eq-text_of (s ∷ ss) (t ∷ ts) = rw (string_eq-text_of s t, strings_eq-text_of ss ts)

-- strings that were copied one by one have the same characters
pub copied_texts : (R : String Global → String Global → Type 0) → ((s t : String Global) → R s t → text_of t ≡ text_of s)
    → (ss ts : List (String Global)) → AllZip R ss ts → map text_of ts ≡ map text_of ss
copied_texts R f [] [] h = refl
copied_texts R f [] (t ∷ ts) h = elim h [ ]
copied_texts R f (s ∷ ss) [] h = elim h [ ]
copied_texts R f (s ∷ ss) (t ∷ ts) h = rw (f s t h.0, copied_texts R f ss ts h.1)

-- two texts are equal where their bytes are
utf8_eq : (bs ds : List ℕ) → IsUtf8 bs → IsUtf8 ds → pointwise nat_eq bs ds ≡ bytes_eq (chars bs) (chars ds)
utf8_eq bs ds u v =
    let d = slice_eq-Decides unsigned_Decides bs ds _ refl in
    let e : Decides (pointwise nat_eq bs ds) (chars bs ≡ chars ds) = ((λ h. ap chars (d.0 h)), (λ h. d.1 (sym (encodes-chars bs u) ∙ ap encodes h ∙ encodes-chars ds v))) in
    same_from_decides _ _ e (bytes_eq-Decides (chars bs) (chars ds))

pub bytes_text_eq : (bs ds : List ℕ) → IsUtf8 bs → IsUtf8 ds → bytes_eq bs ds ≡ bytes_eq (chars bs) (chars ds)
bytes_text_eq bs ds u v =
    let d = bytes_eq-Decides bs ds in
    let e : Decides (bytes_eq bs ds) (chars bs ≡ chars ds) = ((λ h. ap chars (d.0 h)), (λ h. d.1 (sym (encodes-chars bs u) ∙ ap encodes h ∙ encodes-chars ds v))) in
    same_from_decides _ _ e (bytes_eq-Decides (chars bs) (chars ds))

pub literal_eq : (s : String Global) (t : List ℕ) → IsAscii t → pointwise nat_eq (string_bytes s) t ≡ bytes_eq (text_of s) t
literal_eq s t a = utf8_eq (string_bytes s) t (IsUtf8-string_bytes s) (IsUtf8-from_ascii t a) ∙ ap (λ u. bytes_eq (text_of s) u) (chars-IsAscii t a)
