-- Levels of nodes: a node's level is at least those of the nodes that decide whether the node may take
-- nothing.
use Rattle.std.specs.Prelude.{◌≡◌, ℕ, ◌<◌, ◌≤◌, List, Option, Some, None, Bool, true, false, if◌then◌else◌, nat_eq, ⊤, slice_get}
use Rattle.base_graphs.specs.Least.{is_set_at}
use Rattle.front_validator.specs.Cycles.{rank_at}
use Rattle.front_analysis.specs.KindTable.{at_root, fires}
use Rattle.front_analysis.specs.declared.facts.Facts.{Facts}
use Rattle.front_analysis.specs.declared.kind_table.NodeKind.{NodeKind}
use Rattle.front_analysis.specs.declared.kind_table.NodeKind.TheVariants as is
use Rattle.front_analysis.specs.declared.kind_table.Question.TheVariants as asks

-- the body of a rule that may take nothing has no higher level
abbrev pub IsRootWithin : Facts → List ℕ → ℕ → ℕ → Type 0
IsRootWithin facts levels r i = (j : ℕ) → slice_get facts.table.roots.items r ≡ Some j
    → is_set_at facts.nullable.items j ≡ true → rank_at levels j ≤ rank_at levels i

-- the nodes that decide whether a node may take nothing have no higher level
abbrev pub Rests : Facts → List ℕ → ℕ → NodeKind → Type 0
Rests facts levels i (is.Call r) = IsRootWithin facts levels r i
Rests facts levels i (is.Inside j) = rank_at levels j ≤ rank_at levels i
Rests facts levels i (is.OnceAgain j) = rank_at levels j ≤ rank_at levels i
Rests facts levels i (is.Seq j k) = (rank_at levels j ≤ rank_at levels i)
    × (rank_at levels k ≤ rank_at levels i)
Rests facts levels i (is.Choice j k) = (rank_at levels j ≤ rank_at levels i)
    × (rank_at levels k ≤ rank_at levels i)
Rests facts levels i _ = ⊤

abbrev pub AllRest : Facts → List ℕ → Type 0
AllRest facts levels = (i : ℕ) (k : NodeKind) → slice_get facts.table.kinds.items i ≡ Some k
    → Rests facts levels i k

-- a call in the body of the rule v is one of v, or takes something, or its rule has a lower level than v
abbrev pub IsSettled : Facts → List ℕ → ℕ → ℕ → NodeKind → Type 0
IsSettled facts levels v root (is.Call r) = (r ≡ v → ⊥) → (j : ℕ)
    → slice_get facts.table.roots.items r ≡ Some j → is_set_at facts.nullable.items j ≡ true
    → rank_at levels j < rank_at levels root
IsSettled facts levels v root _ = ⊤

-- all these nodes are so
abbrev pub AreSettled : Facts → List ℕ → ℕ → ℕ → ℕ → Type 0
AreSettled facts levels v first root = (i : ℕ) → first ≤ i → i ≤ root → (k : NodeKind)
    → slice_get facts.table.kinds.items i ≡ Some k → IsSettled facts levels v root k

-- whether a node of the body of the rule v may take nothing where calls of v count as neither: by the
-- answers for its operands, and for a call of another rule by the fact of its body
abbrev pub own_answer : Facts → ℕ → (ℕ → Bool) → NodeKind → Bool
own_answer facts v p (is.Call r) = if nat_eq r v then false
    else at_root (is_set_at facts.nullable.items) (slice_get facts.table.roots.items r)
own_answer facts v p k = fires asks.TakesNothing facts.table.roots.items p k

abbrev pub own_answer_at : Facts → ℕ → (ℕ → Bool) → Option NodeKind → Bool
own_answer_at facts v p None = false
own_answer_at facts v p (Some k) = own_answer facts v p k
