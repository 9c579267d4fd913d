-- Flags that are set one by one and unset together.
use Rattle.std.specs.Prelude.{◌≡◌, ℕ, List, Bool, false}
use Rattle.std.specs.List.{Contains}
use Rattle.base_graphs.specs.Least.{is_set_at}

-- no flag is set
abbrev pub NoneSet : List Bool → Type 0
NoneSet flags = (k : ℕ) → is_set_at flags k ≡ false

-- no other flags than these are set
abbrev pub AreOnlySet : List ℕ → List Bool → Type 0
AreOnlySet noted flags = (k : ℕ) → (Contains noted k → ⊥) → is_set_at flags k ≡ false
