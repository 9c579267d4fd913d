-- One item more of two lists, and where a match ends.
use Rattle.std.proofs.Common.{◌≡◌, ◌∙◌, ℕ, ◌+◌, ◌<◌, ◌==◌, List, [], ◌∷◌, ◌++◌, Bool, true, false, ap, get_or, length, not, refl, subst, sym, take, true≢false}
use Rattle.std.proofs.lemmas.Bool.{eqb-true}
use Rattle.std.proofs.lemmas.List.{take_more}
use Rattle.std.proofs.lemmas.Slice.Zip.{all_zipped_more}
use Rattle.std.specs.List.{AllZip}

pub one_more : {X Y : Type 0} (R : X → Y → Type 0) (xs : List X) (ys zs : List Y) (i : ℕ) (x : X) (y : Y) → i < length xs → x ≡ get_or xs i x
    → AllZip R (take i xs) ys → R x y → zs ≡ ys ++ y ∷ [] → AllZip R (take (i + 1) xs) zs
one_more R xs ys zs i x y l is before r e =
    let next : take (i + 1) xs ≡ take i xs ++ x ∷ [] = take_more xs i x l ∙ ap (λ t. take i xs ++ t ∷ []) (sym is) in
    subst (λ ts. AllZip R ts zs) (sym next) (subst (AllZip R (take i xs ++ x ∷ [])) (sym e) (all_zipped_more R (take i xs) ys x y before r))

not_false : (b : Bool) → not b ≡ false → b ≡ true
not_false true h = refl
not_false false h = absurd (true≢false h)

pub whole_end : (m n : ℕ) → not (m == n) ≡ false → m ≡ n
whole_end m n h = eqb-true m n (not_false (m == n) h)
