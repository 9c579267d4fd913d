-- Files with fixes, one more.
use Rattle.std.proofs.Common.{◌≡◌, Bool, ◌∙◌, ℕ, ◌+◌, ◌<◌, ◌≤◌, List, ◌∷◌, add-one, ap, arith, drop, drop-cons, get_or, inl, inr, length, length-drop, refl, set, subst, suc, sym, take}
use Rattle.std.proofs.lemmas.List.{drop-set-lt, take_all, take_more, take_more_set}
use Rattle.std.proofs.lemmas.List.Elements.{AllZip-push}
use Rattle.std.specs.List.{AllZip}
use Rattle.base_language.specs.Language.Text.{Text}
use Rattle.lint_diagnostics.specs.Fixing.{IsMended}
use Rattle.pest_lint.specs.Fixing.{IsKept}
use Rattle.pest_lint.specs.declared.lint.Source.{Source}

-- a file that is not touched
pub same_kept : (takes : Bool) (starts : List Text) (source : Source) → IsKept takes starts source source
same_kept takes starts source = record { name = refl; why = refl; bytes = inl refl }

-- a file with the bytes of its text with fixes
pub fixed_kept : (takes : Bool) (starts : List Text) (old new : Source) (text : List ℕ) → new.name ≡ old.name → new.why ≡ old.why → text ≡ old.bytes.items
    → IsMended takes starts text new.bytes.items → IsKept takes starts old new
fixed_kept takes starts old new text name why same fixed = record {
  name = name;
  why = why;
  bytes = inr (subst (λ t. IsMended takes starts t new.bytes.items) same fixed);
}

-- one file more is kept, and those behind it stand as they were
pub one_more_kept : (takes : Bool) (starts : List Text) (olds news : List Source) (n : ℕ) (d v : Source) → n < length news → AllZip (IsKept takes starts) (take n olds) (take n news) → drop n news ≡ drop n olds → IsKept takes starts (get_or news n d) v
    → AllZip (IsKept takes starts) (take (n + 1) olds) (take (n + 1) (set news n v)) × (drop (n + 1) (set news n v) ≡ drop (n + 1) olds)
one_more_kept takes starts olds news n d v inside made others kept =
    let inside_too : n < length olds = omega (arith, length-drop n news, length-drop n olds, ap length others) in
    let both : get_or news n d ∷ drop (suc n) news ≡ get_or olds n d ∷ drop (suc n) olds = sym (drop-cons news n d inside) ∙ (others ∙ drop-cons olds n d inside_too) in
    let same : get_or news n d ≡ get_or olds n d = cc in
    let behind : drop (suc n) news ≡ drop (suc n) olds = cc in (
      rw (take_more_set news n v inside, take_more olds n d inside_too)
          (AllZip-push (IsKept takes starts) (take n olds) (take n news) (get_or olds n d) v made (subst (λ s. IsKept takes starts s v) same kept)),
      drop-set-lt (n + 1) news n v (omega arith) ∙ rw add-one behind,
    )

-- all are kept
pub all_kept : (takes : Bool) (starts : List Text) (olds news : List Source) (n : ℕ) → length news ≤ n → length olds ≤ n → AllZip (IsKept takes starts) (take n olds) (take n news) → AllZip (IsKept takes starts) olds news
all_kept takes starts olds news n h k made = rw (take_all n news h, take_all n olds k) at made
