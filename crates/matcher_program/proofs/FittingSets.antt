-- Sets that fit properties.
use Rattle.std.proofs.Common.{◌≡◌, zero, suc, refl, sym, ◌∙◌, ap, ℕ, ◌<◌, List, [], ◌∷◌, Bool, true, false, arith, length, get_or, if◌then◌else◌}
use Rattle.std.specs.Prelude.{bytes_eq}
use Rattle.base_ast.specs.Ast.{text_of}
use Rattle.base_language.specs.Language.State.{Classes}
use Rattle.base_language.specs.Rewritings.Equality.{text_eq-Decides}
use Rattle.matcher_program.specs.declared.form.Property.{Property}
use Rattle.matcher_program.specs.Classes.{classes_in}
use Rattle.matcher_program.specs.Programs.{Fits, is_in_ranges}

either : (b x y z : Bool) → (b ≡ true → x ≡ z) → (b ≡ false → y ≡ z) → (if b then x else y) ≡ z
either true x y z f g = f refl
either false x y z f g = g refl

-- sets that fit properties are those of the first properties of their names
named : (classes : Classes) (c : ℕ) (ps : List Property) → ((i : ℕ) (d : Property) → i < length ps → is_in_ranges (get_or ps i d).ranges.items c ≡ classes (text_of (get_or ps i d).name) c) → (i : ℕ) (d : Property) → i < length ps → classes_in ps (text_of (get_or ps i d).name) c ≡ classes (text_of (get_or ps i d).name) c
named classes c [] h i d w = absurd (omega arith)
named classes c (p ∷ ps) h zero d w = either (bytes_eq (text_of p.name) (text_of p.name)) _ _ _ (λ e. h 0 p (omega arith)) (λ e. let x = (text_eq-Decides (text_of p.name) (text_of p.name)).1 refl in absurd (cc))
named classes c (p ∷ ps) h (suc j) d w = either (bytes_eq (text_of p.name) (text_of (get_or ps j d).name)) _ _ _ (λ e. h 0 p (omega arith) ∙ ap (λ m. classes m c) ((text_eq-Decides (text_of p.name) (text_of (get_or ps j d).name)).0 e)) (λ e. named classes c ps (λ k q l. h (suc k) q (omega arith)) j d (omega arith))

pub fits_first : (ps : List Property) (classes : Classes) → Fits ps classes → Fits ps (classes_in ps)
fits_first ps classes fits i d w c l = fits i d w c l ∙ sym (named classes c ps (λ j e v. fits j e v c l) i d w)
