-- Lines on standard error.
use Rattle.std.proofs.Common.{◌≡◌, inl, inr, ℕ, List, Bool, true, Err, Ok, OnErr, OnOk, Option, Result, subst}
use Rattle.std.specs.Io.KnownBytes.{Appends}
use Rattle.pest_lint.specs.Reports.{Tells}

-- a line that is written is told, unless it is refused
pub told : {X E : Type 0} (result : Result X E) (written line : List ℕ) (old new : Option (List ℕ)) (refused : Bool) → written ≡ line → OnOk result (Appends old new written) → OnErr result (refused ≡ true) → Tells line old new refused
told (Ok x) written line old new refused same gained bad = inl (subst (λ (t : List ℕ). Appends old new t) same gained)
told (Err e) written line old new refused same gained bad = inr (inl bad)
