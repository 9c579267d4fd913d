-- Indices of names in a list.
use Rattle.std.specs.Prelude.{ℕ, suc, List, [], ◌∷◌, Option, Some, None, if◌then◌else◌, bytes_eq}
use Rattle.std.specs.Borrow.{Bor}

-- the index of the last equal name
abbrev pub last_name : List (Bor (List ℕ)) → List ℕ → Option ℕ
last_name [] b = None
last_name (n ∷ ns) b = elim (last_name ns b) [
  | Some k ↦ Some (suc k)
  | None ↦ if bytes_eq n.now b then Some 0 else None
]
