-- Properties as sets of characters.
use Rattle.matcher_code.specs.Lists.{is_covered}
use Rattle.std.proofs.Common.{◌≡◌, refl, sym, ◌∙◌, ap, ℕ, ◌<◌, List, [], ◌∷◌, ◌++◌, Bool, true, false, ◌||◌, Some, codes, get_or, length}
use Rattle.std.proofs.lemmas.Slice.Eq.{bytes_eq-Decides}
use Rattle.base_ast.specs.Ast.{text_of}
use Rattle.base_language.specs.Language.Builtins.{Eoi, Property as PropertyOf, builtin_of, is_between}
use Rattle.base_language.specs.Language.FurthestFailure.{is_eoi}
use Rattle.base_language.specs.Language.Matching.{character_outcome}
use Rattle.base_language.specs.Language.State.{Classes}
use Rattle.base_language.specs.Language.Text.{Text}
use Rattle.matcher_program.specs.declared.form.Form.TheVariants as form
use Rattle.matcher_program.specs.declared.form.Program.{Program}
use Rattle.matcher_program.specs.declared.form.Property.{Property}
use Rattle.matcher_program.specs.Programs.{is_in_ranges}
use Rattle.std.specs.declared.string.String.{String}
use Rattle.std.specs.declared.alloc.Global.{Global}
use Rattle.matcher_sets.specs.Differences.{AddsForm, MatchesOne}
use Rattle.matcher_sets.specs.Forms.{IsBoundIn}
use Rattle.matcher_sets.proofs.Leaves.{builtin_outcome_of, eoi_builtin, quiet}
use Rattle.matcher_sets.proofs.Ranging.{covered-append}

same_test : (rs : List (ℕ × ℕ)) (c : ℕ) → is_covered rs c ≡ is_in_ranges rs c
same_test [] c = refl
same_test (r ∷ rs) c = ap (λ b. is_between r.0 r.1 c || b) (same_test rs c)

property_is_no_end : (n : Text) → builtin_of n ≡ Some (PropertyOf n) → is_eoi n ≡ false
property_is_no_end n h = go (is_eoi n) refl
  where
    go : (b : Bool) → is_eoi n ≡ b → b ≡ false
    go false e = refl
    go true e =
        let z : n ≡ codes "EOI" = (bytes_eq-Decides n (codes "EOI")).0 e in
        let k : Some (PropertyOf n) ≡ Some Eoi = sym h ∙ (ap builtin_of z ∙ eoi_builtin) in cc

module _ (p : Program) (n : String Global) (i : ℕ) (bound : IsBoundIn p (form.Property n i)) where
  property_matches : (classes : Classes) → MatchesOne p classes (form.Property n i) (classes (text_of n))
  property_matches classes m =
      quiet p classes m (text_of n) (character_outcome (classes (text_of n))) (property_is_no_end (text_of n) bound.is)
      (builtin_outcome_of p classes m (text_of n) (PropertyOf (text_of n)) (character_outcome (classes (text_of n))) bound.unnamed bound.is (λ s. refl))

  pub property_added : (old new : List (ℕ × ℕ)) → i < length p.properties.items
      → (d : Property) → new ≡ old ++ (get_or p.properties.items i d).ranges.items → AddsForm p (form.Property n i) old new
  property_added old new l d e = λ classes fits.
      let named : text_of (get_or p.properties.items i d).name ≡ text_of n = bound.number.named d in
      record {
        characters = classes (text_of n);
        adds = λ x h.
            ap (λ rs. is_covered rs x) e ∙ (covered-append old (get_or p.properties.items i d).ranges.items x
            ∙ ap (λ b. is_covered old x || b) (same_test (get_or p.properties.items i d).ranges.items x ∙ (fits i d l x h ∙ ap (λ t. classes t x) named)));
        holds = property_matches classes;
      }
