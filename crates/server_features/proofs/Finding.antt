-- The last token that passes a test.
use Rattle.std.proofs.Common.{◌≡◌, ◌∙◌, ap, refl, sym, List, [], ◌∷◌, Bool, true, false, Option, None, Some, if◌then◌else◌}
use Rattle.std.specs.Prelude.{find, reverse}
use Rattle.std.specs.Option.{option_or}
use Rattle.std.proofs.lemmas.List.{reverse-append}
use Rattle.std.proofs.lemmas.List.Folds.{find-append}

-- one more at the start is found last
or_alone : {X : Type 0} (p : X → Bool) (x : X) (found last : Option X)
    → option_or (option_or found (find p (x ∷ []))) last ≡ option_or found (if p x then Some x else last)
or_alone p x (Some y) last = refl
or_alone p x None last = go (p x) refl
  where
    go : (b : Bool) → b ≡ p x → option_or (if p x then Some x else None) last ≡ (if p x then Some x else last)
    go true e = rewrite_both e
      where
        rewrite_both : true ≡ p x → option_or (if p x then Some x else None) last ≡ (if p x then Some x else last)
        rewrite_both e = ap (λ b. option_or (if b then Some x else None) last) (sym e) ∙ ap (λ b. if b then Some x else last) e
    go false e = ap (λ b. option_or (if b then Some x else None) last) (sym e) ∙ ap (λ b. if b then Some x else last) e

pub find_last : {X : Type 0} (p : X → Bool) (x : X) (xs : List X) (last : Option X)
    → option_or (find p (reverse (x ∷ xs))) last ≡ option_or (find p (reverse xs)) (if p x then Some x else last)
find_last p x xs last =
    ap (λ ys. option_or (find p ys) last) (reverse-append (x ∷ []) xs)
    ∙ (ap (λ f. option_or f last) (find-append p (reverse xs) (x ∷ [])) ∙ or_alone p x (find p (reverse xs)) last)

-- so a loop from the start keeps the last that passes
pub last_found : {X : Type 0} (p : X → Bool) (x : X) (xs rest : List X) (last found : Option X) → rest ≡ x ∷ xs → p x ≡ true
    → option_or (find p (reverse rest)) last ≡ found → option_or (find p (reverse xs)) (Some x) ≡ found
last_found p x xs rest last found is passes before =
    ap (λ b. option_or (find p (reverse xs)) (if b then Some x else last)) (sym passes) ∙ (sym (find_last p x xs last)
    ∙ (ap (λ ys. option_or (find p (reverse ys)) last) (sym is) ∙ before))

pub last_kept : {X : Type 0} (p : X → Bool) (x : X) (xs rest : List X) (last found : Option X) → rest ≡ x ∷ xs → p x ≡ false
    → option_or (find p (reverse rest)) last ≡ found → option_or (find p (reverse xs)) last ≡ found
last_kept p x xs rest last found is passes before =
    ap (λ b. option_or (find p (reverse xs)) (if b then Some x else last)) (sym passes) ∙ (sym (find_last p x xs last)
    ∙ (ap (λ ys. option_or (find p (reverse ys)) last) (sym is) ∙ before))
