-- Builtins that are sets of characters, and texts of one character.
use Rattle.std.proofs.Common.{◌≡◌, ◌∙◌, ◌++◌, ◌∷◌, [], ◌==◌, ℕ, List, Bool, true, false, Some, None, if◌then◌else◌, length, refl, sym, ap, subst, chars, eqb-true, arith}
use Rattle.std.proofs.lemmas.Bool.{false_from_ne_true}
use Rattle.std.specs.Prelude.{IsUtf8, encode_utf8}
use Rattle.std.proofs.lemmas.Str.{chars-nil, chars_past_char, encodes-chars}
use Rattle.std.proofs.Math.Utf8.{encodes}
use Rattle.std.specs.Prelude.{is_some}
use Rattle.base_language.specs.Language.Builtins.{Property, builtin_of, is_one_of, property_names}
use Rattle.base_language.specs.Language.Text.{Text}
use Rattle.front_names.specs.Builtins.{builtin_names, meaning_of, name_of}
use Rattle.front_names.specs.declared.builtin.Builtin.{Builtin}
use Rattle.front_names.proofs.Ascii.{ascii_chars}
use Rattle.front_names.proofs.BuiltinLemmas.{name_ascii, named_meaning, other_meaning}
use Rattle.lint_warnings.specs.Tokens.{is_set, is_single}

-- the characters of a builtin's name
pub name_characters : (b : Builtin) (t : List ℕ) → t ≡ name_of b → chars t ≡ name_of b
name_characters b t e = ap chars e ∙ ascii_chars (name_of b) (name_ascii b)

-- the name of a builtin of code
pub listed_set : (b : Builtin) (n : Text) (r : Bool) → n ≡ name_of b → r ≡ is_set (Some (meaning_of b)) → r ≡ is_set (builtin_of n)
listed_set b n r e h = h ∙ sym (ap is_set (ap builtin_of e ∙ named_meaning b))

property_set : (n : Text) (b : Bool) → is_some (if b then Some (Property n) else None) ≡ is_set (if b then Some (Property n) else None)
property_set n true = refl
property_set n false = refl

-- any other name
pub other_set : (n : Text) → is_one_of builtin_names n ≡ false → is_some (builtin_of n) ≡ is_set (builtin_of n)
other_set n h = rw (other_meaning n h) (property_set n (is_one_of property_names n))

single_rest : (c : ℕ) (r : List ℕ) (cs : Text) → chars r ≡ cs → IsUtf8 r → (length r == 0) ≡ is_single (c ∷ cs)
single_rest c [] cs e u = ap (λ t. is_single (c ∷ t)) (sym chars-nil ∙ e)
single_rest c (b ∷ r) [] e u = let k = sym (encodes-chars (b ∷ r) u) ∙ ap encodes e in cc
single_rest c (b ∷ r) (d ∷ ds) e u = false_from_ne_true (length (b ∷ r) == 0) (λ k. let z = eqb-true (length (b ∷ r)) 0 k in absurd (omega arith))

-- a text, its first character and what is left
pub single_if_none_left : (bs given r left : List ℕ) (c : ℕ) (empty : Bool) → IsUtf8 bs → given ≡ bs → given ≡ encode_utf8 c ++ r → left ≡ r → IsUtf8 left → empty ≡ (length left == 0) → empty ≡ is_single (chars bs)
single_if_none_left bs given r left c empty u g e l v m =
    m ∙ (ap (λ t. length t == 0) l ∙ (single_rest c r (chars r) refl (subst IsUtf8 l v) ∙ ap is_single (sym (chars_past_char bs r c u (sym g ∙ e)))))
