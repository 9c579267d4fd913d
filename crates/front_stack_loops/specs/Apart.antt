-- Nodes independent of the stack, which do the same from every stack and leave it.
use Rattle.std.specs.Prelude.{◌≡◌, ℕ, List, Option, Some, None, Bool, true, false, ◌&&◌, nat_le, slice_get}
use Rattle.base_graphs.specs.Least.{is_set_at}
use Rattle.front_stack_domain.specs.Stack.{AbstractStack}
use Rattle.front_stack_domain.specs.Reading as says
use Rattle.front_stack_domain.specs.Reading.{only_if}
use Rattle.front_stack_loops.specs.Table.{followed_at, nodes_of}
use Rattle.front_stack_loops.specs.declared.table.NodeKind.{NodeKind}
use Rattle.front_stack_loops.specs.declared.table.NodeKind.TheVariants as is
use Rattle.front_stack_loops.specs.declared.table.PassNode.{PassNode}
use Rattle.front_stack_loops.specs.declared.table.Table.{Table}

-- the reading r of a node independent of the stack, from another stack
abbrev pub moved : AbstractStack → says.Reading → says.Reading
moved a r = record { ok = only_if r.ok a; err = only_if r.err a; still = r.still }

-- the nodes with a flag do the same from every stack
abbrev pub AreMovable : (ℕ → AbstractStack → says.Reading) → List Bool → Type 0
AreMovable meaning flags = (i : ℕ) → is_set_at flags i ≡ true → (a b : AbstractStack)
    → meaning i b ≡ moved b (meaning i a)

-- a call of this body
abbrev pub apart_call : (ℕ → Bool) → Option ℕ → Bool
apart_call set None = false
apart_call set (Some j) = set j

-- a node by those in it and the bodies that it calls: neither may look at the stack or change it
abbrev pub apart_kind : Table → (ℕ → Bool) → NodeKind → Bool
apart_kind t set is.Still = true
apart_kind t set is.Leaf = true
apart_kind t set is.Peek = false
apart_kind t set is.Pop = false
apart_kind t set is.Drop = false
apart_kind t set is.PeekAll = false
apart_kind t set is.PopAll = false
apart_kind t set (is.Call r) = apart_call set (followed_at t r)
apart_kind t set (is.PosPred j) = set j
apart_kind t set (is.NegPred j) = set j
apart_kind t set (is.Opt j) = set j
apart_kind t set (is.Push j) = false
apart_kind t set (is.PushLiteral blank) = false
apart_kind t set (is.Tag j) = set j
apart_kind t set (is.Seq j k) = set j && set k
apart_kind t set (is.Choice j k) = set j && set k
apart_kind t set (is.Repeat j required optional endless) = nat_le 2 t.limit && set j

-- every flagged node is so
abbrev pub AreApart : Table → List Bool → Type 0
AreApart t flags = (i : ℕ) (n : PassNode) → slice_get (nodes_of t) i ≡ Some n → is_set_at flags i ≡ true
    → apart_kind t (is_set_at flags) n.kind ≡ true
