-- The builtins that take nothing, by their names.
use Rattle.std.proofs.Common.{◌≡◌, ◌∙◌, Bool, true, false, bytes_eq, codes, refl, sym, ap, inl, inr}
use Rattle.std.proofs.lemmas.Slice.Eq.{bytes_eq-Decides}
use Rattle.std.proofs.lemmas.Bool.{false_from_ne_true, or_cases}
use Rattle.base_language.specs.Language.Text.{Text}
use Rattle.base_language.specs.Language.Builtins.{builtins, is_one_of}
use Rattle.front_names.specs.Builtins.{builtin_names, is_nullable, meaning_of, name_of}
use Rattle.front_names.specs.declared.builtin.Builtin.{Builtin}
use Rattle.front_names.specs.declared.builtin.Builtin.TheVariants as builtin
use Rattle.front_names.specs.declared.char_set.CharSet.TheVariants as set
use Rattle.front_analysis.specs.Names.{is_end}

end_of : (b : Builtin) → is_nullable (meaning_of b) ≡ is_end (name_of b)
end_of (builtin.Set set.Any) = refl
end_of (builtin.Set set.AsciiDigit) = refl
end_of (builtin.Set set.AsciiNonzeroDigit) = refl
end_of (builtin.Set set.AsciiBinDigit) = refl
end_of (builtin.Set set.AsciiOctDigit) = refl
end_of (builtin.Set set.AsciiHexDigit) = refl
end_of (builtin.Set set.AsciiAlphaLower) = refl
end_of (builtin.Set set.AsciiAlphaUpper) = refl
end_of (builtin.Set set.AsciiAlpha) = refl
end_of (builtin.Set set.AsciiAlphanumeric) = refl
end_of (builtin.Set set.Ascii) = refl
end_of builtin.Soi = refl
end_of builtin.Eoi = refl
end_of builtin.Newline = refl
end_of builtin.Peek = refl
end_of builtin.Pop = refl
end_of builtin.Drop = refl
end_of builtin.PeekAll = refl
end_of builtin.PopAll = refl

-- the name of a builtin of code
pub listed_end : (b : Builtin) (n : Text) (r : Bool) → n ≡ name_of b → r ≡ is_nullable (meaning_of b) → r ≡ is_end n
listed_end b n r e h = h ∙ (end_of b ∙ sym (ap is_end e))

soi_listed : is_one_of builtin_names (codes "SOI") ≡ true
unfolding builtins
soi_listed = refl

eoi_listed : is_one_of builtin_names (codes "EOI") ≡ true
unfolding builtins
eoi_listed = refl

end_listed : (n : Text) → is_end n ≡ true → is_one_of builtin_names n ≡ true
end_listed n h = elim (or_cases (bytes_eq n (codes "SOI")) (bytes_eq n (codes "EOI")) h) [
  | inl e ↦ ap (is_one_of builtin_names) ((bytes_eq-Decides n (codes "SOI")).0 e) ∙ soi_listed
  | inr e ↦ ap (is_one_of builtin_names) ((bytes_eq-Decides n (codes "EOI")).0 e) ∙ eoi_listed
]

true_is_false : true ≡ false → ⊥
true_is_false f = cc

-- any other name
pub other_end : (n : Text) → is_one_of builtin_names n ≡ false → false ≡ is_end n
other_end n h = sym (false_from_ne_true (is_end n) (λ k. true_is_false (sym (end_listed n k) ∙ h)))
