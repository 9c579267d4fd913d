-- Texts that are escaped stay texts.
use Rattle.std.proofs.Common.{◌≡◌, ◌≢◌, ℕ, List, [], ◌∷◌, ◌++◌, Bool, true, false, ◌||◌, ◌==◌, if◌then◌else◌, codes, refl, sym, ap, ◌∙◌, subst, lit<, arith}
use Rattle.std.proofs.lemmas.Bool.Decides.{nat_tests}
use Rattle.std.specs.List.{Contains, flat_map}
use Rattle.doc_markup.specs.Ebnf.{comment_character, is_plain, plain_character}
use Rattle.doc_markup.specs.Escape.{escaped, escaped_character, is_hidden, is_format, visible}
use Rattle.doc_markup.specs.Markdown.{code_character, inline_character, is_punctuation}
use Rattle.doc_markup.specs.Laws.{IsInert, inert_end, inert_shown, inert_entity, IsInertInline, inline_end, inline_shown, inline_punctuation, IsIndented, code_end, code_shown, code_line, IsPlainText, plain_end, plain_more, IsInertComment, comment_end, comment_shown, comment_slash, is_special}

-- what holds for both answers of a test
by_test : {A : Type 0} (P : A → Type 0) (b : Bool) (x y : A) → (b ≡ true → P x) → (b ≡ false → P y)
    → P (if b then x else y)
by_test P true x y on_true on_false = on_true refl
by_test P false x y on_true on_false = on_false refl

-- what is shown for a character is shown
pub visible_twice : (c : ℕ) → visible (visible c) ≡ visible c
visible_twice c =
    by_test (λ v. visible v ≡ v) (is_hidden c || is_format c) 0xfffd c (λ h. refl)
    (λ h. ap (λ b. if b then 0xfffd else c) h)

-- it is no special character, unless the character is one
shown_is_plain : (p : ℕ → Bool) (c : ℕ) → p 0xfffd ≡ false → p c ≡ false → p (visible c) ≡ false
shown_is_plain p c replaced own =
    by_test (λ v. p v ≡ false) (is_hidden c || is_format c) 0xfffd c (λ h. replaced) (λ h. own)

not_special : (a b c d e : Bool) → a ≡ false → b ≡ false → c ≡ false → d ≡ false → e ≡ false
    → (a || (b || (c || (d || e)))) ≡ false
not_special a b c d e ha hb hc hd he = rw (ha, hb, hc, hd, he) refl

escaped_one : (c : ℕ) (t : List ℕ) → IsInert t → IsInert (escaped_character c ++ t)
escaped_one c t h =
    let P : List ℕ → Type 0 = λ x. IsInert (x ++ t) in
    by_test P (c == 60) (codes "&lt;") _ (λ e. inert_entity (codes "&lt;") (0, lit< tt, refl) h) (λ less.
    by_test P (c == 62) (codes "&gt;") _ (λ e. inert_entity (codes "&gt;") (1, lit< tt, refl) h) (λ greater.
    by_test P (c == 38) (codes "&amp;") _ (λ e. inert_entity (codes "&amp;") (2, lit< tt, refl) h) (λ ampersand.
    by_test P (c == 34) (codes "&quot;") _ (λ e. inert_entity (codes "&quot;") (3, lit< tt, refl) h) (λ quote.
    by_test P (c == 39) (codes "&#39;") _ (λ e. inert_entity (codes "&#39;") (4, lit< tt, refl) h) (λ apostrophe.
    inert_shown (visible c)
    (shown_is_plain is_special c refl (not_special (c == 60) (c == 62) (c == 38) (c == 34) (c == 39) less greater ampersand quote apostrophe))
    (visible_twice c) h)))))

pub escaped_inert : (t : List ℕ) → IsInert (escaped t)
escaped_inert [] = inert_end
escaped_inert (c ∷ t) = escaped_one c (escaped t) (escaped_inert t)

right_is_false : (a b : Bool) → (a || b) ≡ false → b ≡ false
right_is_false true b h = cc
right_is_false false b h = h

inline_one : (c : ℕ) (t : List ℕ) → IsInertInline t → IsInertInline (inline_character c ++ t)
inline_one c t h =
    let P : List ℕ → Type 0 = λ x. IsInertInline (x ++ t) in
    by_test P (c == 9 || c == 10) (32 ∷ []) _ (λ e. inline_shown 32 refl refl refl h) (λ line.
    by_test P (is_punctuation c) (92 ∷ c ∷ []) _ (λ e. inline_punctuation c e h) (λ other.
    inline_shown (visible c) (shown_is_plain is_punctuation c refl other)
    (shown_is_plain (λ v. v == 10) c refl (right_is_false (c == 9) (c == 10) line)) (visible_twice c) h))

pub inline_inert : (t : List ℕ) → IsInertInline (flat_map inline_character t)
inline_inert [] = inline_end
inline_inert (c ∷ t) = inline_one c (flat_map inline_character t) (inline_inert t)

code_one : (c : ℕ) (t : List ℕ) → IsIndented t → IsIndented (code_character c ++ t)
code_one c t h =
    let P : List ℕ → Type 0 = λ x. IsIndented (x ++ t) in
    by_test P (c == 10) (codes "\n    ") _ (λ e. code_line h) (λ other.
    code_shown (visible c) (shown_is_plain (λ v. v == 10) c refl other) (visible_twice c) h)

pub code_indented : (t : List ℕ) → IsIndented (flat_map code_character t)
code_indented [] = code_end
code_indented (c ∷ t) = code_one c (flat_map code_character t) (code_indented t)

plain_one : (c : ℕ) (t : List ℕ) → IsPlainText t → IsPlainText (plain_character c ++ t)
plain_one c t h =
    let P : List ℕ → Type 0 = λ x. IsPlainText (x ++ t) in
    by_test P (is_plain c) (c ∷ []) [] (λ e. plain_more c e h) (λ e. h)

pub strings_plain : (t : List ℕ) → IsPlainText (flat_map plain_character t)
strings_plain [] = plain_end
strings_plain (c ∷ t) = plain_one c (flat_map plain_character t) (strings_plain t)

comment_one : (c : ℕ) (t : List ℕ) → IsInertComment t → IsInertComment (comment_character c ++ t)
comment_one c t h =
    let P : List ℕ → Type 0 = λ x. IsInertComment (x ++ t) in
    by_test P (c == 47) (codes " /") _ (λ e. comment_slash h) (λ other.
    comment_shown (visible c) (shown_is_plain (λ v. v == 47) c refl other) (visible_twice c) h)

pub comments_inert : (t : List ℕ) → IsInertComment (flat_map comment_character t)
comments_inert [] = comment_end
comments_inert (c ∷ t) = comment_one c (flat_map comment_character t) (comments_inert t)
