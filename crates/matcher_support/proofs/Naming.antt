-- Names of wrappers: their tags, and that two numbers make two names.
use Rattle.std.proofs.Common.{◌≡◌, ◌<◌, ◌^◌, inl, inr, refl, sym, ◌∙◌, ap, subst, ℕ, List, [], ◌∷◌, ◌++◌, Bool, true, false, ◌==◌, Some, None, ◌||◌, bytes_eq, arith}
use Rattle.std.specs.Fmt.{decimal}
use Rattle.std.specs.Char.{digit_value}
use Rattle.std.specs.Str.Parse.{AllDigits}
use Rattle.std.proofs.lemmas.Bool.Decides.{eqb_tells}
use Rattle.std.proofs.lemmas.Fmt.{decimal_injective, decimal_is_IsNumeral}
use Rattle.std.proofs.lemmas.Slice.Eq.{bytes_eq-Decides}
use Rattle.base_language.specs.Language.Text.{Text}
use Rattle.base_language.specs.Language.Expression.{whitespace, comment}
use Rattle.matcher_support.specs.Names.{tag_in, wrapper_name}

no_digit : digit_value 35 < 10 → ⊥
no_digit h = omega arith

no_mark : (c : ℕ) → digit_value c < 10 → (c == 35) ≡ false
no_mark c h = elim (eqb_tells c 35) [
  | inl e ↦ absurd (no_digit (subst (λ x. digit_value x < 10) e.1 h))
  | inr e ↦ e.0
]

tag_after : (ds : List ℕ) (t : Text) → AllDigits 10 ds → tag_in (ds ++ 35 ∷ t) ≡ Some t
tag_after [] t h = refl
tag_after (d ∷ ds) t h = rw (no_mark d h.0) (tag_after ds t h.1)

same_front : (ds es : List ℕ) (t u : Text) → AllDigits 10 ds → AllDigits 10 es → ds ++ 35 ∷ t ≡ es ++ 35 ∷ u → ds ≡ es
same_front [] [] t u h k e = refl
same_front [] (c ∷ es) t u h k e =
    let p : c ≡ 35 = cc in absurd (no_digit (subst (λ x. digit_value x < 10) p k.0))
same_front (c ∷ ds) [] t u h k e =
    let p : c ≡ 35 = cc in absurd (no_digit (subst (λ x. digit_value x < 10) p h.0))
same_front (c ∷ ds) (d ∷ es) t u h k e =
    let p : c ≡ d = cc in
    let q : ds ++ 35 ∷ t ≡ es ++ 35 ∷ u = cc in
    let r = same_front ds es t u h.1 k.1 q in cc

pub wrapper_tag : (k : ℕ) (t : Text) → k < 2 ^ 64 → tag_in (wrapper_name k t) ≡ Some t
wrapper_tag k t h = tag_after (decimal k) t (decimal_is_IsNumeral k h).0.1

pub same_number : (j k : ℕ) (t u : Text) → j < 2 ^ 64 → k < 2 ^ 64 → wrapper_name j t ≡ wrapper_name k u → j ≡ k
same_number j k t u h i e =
    decimal_injective j k h i (same_front (decimal j) (decimal k) t u (decimal_is_IsNumeral j h).0.1 (decimal_is_IsNumeral k i).0.1 e)

-- names that differ
pub differ : (n m : Text) → (n ≡ m → ⊥) → bytes_eq n m ≡ false
differ n m h = go (bytes_eq n m) (bytes_eq-Decides n m).0
  where
    go : (b : Bool) → (b ≡ true → n ≡ m) → b ≡ false
    go true k = absurd (h (k refl))
    go false k = refl

pub differ_by_tag : (n m : Text) (t : Text) → tag_in n ≡ None → tag_in m ≡ Some t → bytes_eq n m ≡ false
differ_by_tag n m t h k = differ n m (λ e. let x : None ≡ Some t = sym h ∙ (ap tag_in e ∙ k) in cc)

pub unmarked_whitespace : tag_in whitespace ≡ None
unfolding whitespace
unmarked_whitespace = refl

pub unmarked_comment : tag_in comment ≡ None
unfolding comment
unmarked_comment = refl

-- a wrapper is no rule that is skipped
pub not_blank : (n t : Text) → tag_in n ≡ Some t → (bytes_eq n whitespace || bytes_eq n comment) ≡ false
not_blank n t h =
    let a = differ n whitespace (λ e. let x : None ≡ Some t = sym unmarked_whitespace ∙ (ap tag_in (sym e) ∙ h) in cc) in
    let b = differ n comment (λ e. let x : None ≡ Some t = sym unmarked_comment ∙ (ap tag_in (sym e) ∙ h) in cc) in
    rw (a, b) refl
