-- The flags of a list to which one was put.
use Rattle.std.proofs.Common.{◌≡◌, ℕ, zero, suc, ◌<◌, List, [], ◌∷◌, ◌++◌, Bool, length, refl, arith}
use Rattle.base_graphs.specs.Least.{is_set_at}

pub set_before : (flags : List Bool) (b : Bool) (i : ℕ) → i < length flags → is_set_at (flags ++ b ∷ []) i ≡ is_set_at flags i
set_before [] b i h = absurd (omega arith)
set_before (a ∷ flags) b zero h = refl
set_before (a ∷ flags) b (suc i) h = set_before flags b i (omega arith)

pub set_last : (flags : List Bool) (b : Bool) → is_set_at (flags ++ b ∷ []) (length flags) ≡ b
set_last [] b = refl
set_last (a ∷ flags) b = set_last flags b
