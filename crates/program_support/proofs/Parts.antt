-- Texts of parts.
use Rattle.std.proofs.Common.{◌≡◌, ◌∙◌, ℕ, ◌+◌, ◌<◌, List, [], ◌∷◌, ◌++◌, ap, append-nil, get_or, length, subst, sym, take}
use Rattle.std.proofs.lemmas.List.{take_more}
use Rattle.std.proofs.lemmas.List.Folds.{concat-append}
use Rattle.std.proofs.lemmas.Slice.Zip.{all_zipped_more}
use Rattle.std.specs.List.{AllZip, concat}
use Rattle.program_support.specs.Messages.{ArePartsOf}

pub one_part_more : {X : Type 0} (P : X → List ℕ → Type 0) (xs : List X) (i : ℕ) (x : X) (old part new : List ℕ)
    → i < length xs → x ≡ get_or xs i x → ArePartsOf P (take i xs) old → P x part → new ≡ old ++ part
    → ArePartsOf P (take (i + 1) xs) new
one_part_more P xs i x old part new l is before shown e =
    let next : take (i + 1) xs ≡ take i xs ++ x ∷ [] = take_more xs i x l ∙ ap (λ t. take i xs ++ t ∷ []) (sym is) in (
      before.0 ++ part ∷ [],
      subst (λ ts. AllZip P ts (before.0 ++ part ∷ [])) (sym next) (all_zipped_more P (take i xs) before.0 x part before.1 shown),
      e ∙ ap (λ t. t ++ part) before.2
          ∙ sym (concat-append before.0 (part ∷ []) ∙ ap (λ t. concat before.0 ++ t) (append-nil part)),
    )
