-- Errors with their diagnostics, one part for each.
use Rattle.std.proofs.Common.{◌≡◌, ◌∙◌, ℕ, List, [], ◌∷◌, ◌++◌, Bor, ap, append-nil, sym}
use Rattle.std.proofs.lemmas.List.Folds.{concat-append}
use Rattle.std.proofs.lemmas.Slice.Zip.{all_zipped_more}
use Rattle.std.specs.List.{concat}
use Rattle.program_support.specs.Messages.{ArePartsOf}

-- what two references point to
abbrev pub pointed : {X Y : Type 0} → Bor X × Bor Y → X × Y
pointed pair = (pair.0.now, pair.1.now)

-- one part more
pub last_part : {X : Type 0} (P : X → List ℕ → Type 0) (xs : List X) (x : X) (old part new : List ℕ) → ArePartsOf P xs old → P x part → new ≡ old ++ part → ArePartsOf P (xs ++ x ∷ []) new
last_part P xs x old part new before shown e = (
  before.0 ++ part ∷ [],
  all_zipped_more P xs before.0 x part before.1 shown,
  e ∙ ap (λ t. t ++ part) before.2 ∙ sym (concat-append before.0 (part ∷ []) ∙ ap (λ t. concat before.0 ++ t) (append-nil part)),
)
