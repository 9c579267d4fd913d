-- Numbers of nodes that fall along left calls, and numbers that do not rise along them.
use Rattle.std.specs.Prelude.{◌≡◌, ℕ, ◌+◌, ◌<◌, List, Some, true, ⊤, slice_get, unwrap_or}
use Rattle.base_graphs.specs.Least.{is_set_at}
use Rattle.front_analysis.specs.declared.kind_table.NodeKind.{NodeKind}
use Rattle.front_analysis.specs.declared.kind_table.NodeKind.TheVariants as is
use Rattle.front_analysis.specs.declared.facts.Facts.{Facts}

abbrev pub rank_at : List ℕ → ℕ → ℕ
rank_at order i = unwrap_or (slice_get order i) 0

-- the body of a rule has a number below b
abbrev pub IsBelowRoot : Facts → List ℕ → ℕ → ℕ → Type 0
IsBelowRoot facts order r b = (j : ℕ) → slice_get facts.table.roots.items r ≡ Some j → rank_at order j < b

-- the nodes to which the left calls of a node lead directly have numbers below b
abbrev pub Falls : Facts → List ℕ → ℕ → NodeKind → Type 0
Falls facts order b is.Taking = ⊤
Falls facts order b is.Still = ⊤
Falls facts order b is.End = ⊤
Falls facts order b (is.Call r) = IsBelowRoot facts order r b
Falls facts order b (is.EndCall r) = IsBelowRoot facts order r b
Falls facts order b (is.Ahead j) = rank_at order j < b
Falls facts order b (is.NotAhead j) = rank_at order j < b
Falls facts order b (is.Free j) = rank_at order j < b
Falls facts order b (is.Inside j) = rank_at order j < b
Falls facts order b (is.Again j) = rank_at order j < b
Falls facts order b (is.OnceAgain j) = rank_at order j < b
Falls facts order b (is.Seq j k) = (rank_at order j < b)
    × (is_set_at facts.nullable.items j ≡ true → rank_at order k < b)
Falls facts order b (is.Choice j k) = (rank_at order j < b) × (rank_at order k < b)

-- numbers fall along left calls
abbrev pub AllFall : Facts → List ℕ → Type 0
AllFall facts order = (i : ℕ) (k : NodeKind) → slice_get facts.table.kinds.items i ≡ Some k
    → Falls facts order (rank_at order i) k

-- numbers do not rise along left calls
abbrev pub NoneRises : Facts → List ℕ → Type 0
NoneRises facts order = (i : ℕ) (k : NodeKind) → slice_get facts.table.kinds.items i ≡ Some k
    → Falls facts order (rank_at order i + 1) k

-- numbers fall along the left calls of the body of a rule
abbrev pub FallsFrom : Facts → List ℕ → ℕ → Type 0
FallsFrom facts order r = (i : ℕ) (k : NodeKind) → slice_get facts.table.roots.items r ≡ Some i
    → slice_get facts.table.kinds.items i ≡ Some k → Falls facts order (rank_at order i) k
