-- Questions about nodes, answered for a node by the answers for its operands.
use Rattle.std.specs.Prelude.{◌≡◌, ℕ, List, Option, Some, None, Bool, true, false, ◌&&◌, ◌||◌, slice_get, nat_eq}
use Rattle.base_graphs.specs.Least as least
use Rattle.base_graphs.specs.Least.{Follows, is_set_at}
use Rattle.front_stack_loops.specs.Table.{called_by, parts_of}
use Rattle.front_stack_loops.specs.declared.table.NodeKind.{NodeKind}
use Rattle.front_stack_loops.specs.declared.table.NodeKind.TheVariants as is
use Rattle.front_stack_loops.specs.declared.table.PassNode.{PassNode}
use Rattle.front_stack_loops.specs.declared.table.Parts.{Parts}
use Rattle.front_stack_loops.specs.declared.table.Parts.TheVariants as parts
use Rattle.front_stack_loops.specs.declared.facts.Question.{Question}
use Rattle.front_stack_loops.specs.declared.facts.Question.TheVariants as asks

abbrev pub at_place : (ℕ → Bool) → Option ℕ → Bool
at_place p None = false
at_place p (Some i) = p i

-- a node changes the stack outside predicates, by the flags p of nodes
abbrev pub changing_kind : List ℕ → (ℕ → Bool) → NodeKind → Bool
changing_kind roots p (is.Call r) = at_place p (slice_get roots r)
changing_kind roots p (is.Push j) = true
changing_kind roots p (is.PushLiteral blank) = true
changing_kind roots p is.Pop = true
changing_kind roots p is.Drop = true
changing_kind roots p is.PopAll = true
changing_kind roots p (is.Tag j) = p j
changing_kind roots p (is.Opt j) = p j
changing_kind roots p (is.Repeat j required optional endless) = p j
changing_kind roots p (is.Seq j k) = p j || p k
changing_kind roots p (is.Choice j k) = p j || p k
changing_kind roots p _ = false

-- a node may be read as taking nothing, from some stack, by the flags p of its operands
abbrev pub still_kind : List ℕ → (ℕ → Bool) → NodeKind → Bool
still_kind roots p is.Leaf = false
still_kind roots p (is.Call r) = at_place p (slice_get roots r)
still_kind roots p (is.Push j) = p j
still_kind roots p (is.Tag j) = p j
still_kind roots p (is.Repeat j required optional endless) = nat_eq required 0 || p j
still_kind roots p (is.Seq j k) = p j && p k
still_kind roots p (is.Choice j k) = p j || p k
still_kind roots p _ = true

-- some operand has its flag set
abbrev pub some_part : (ℕ → Bool) → Parts → Bool
some_part p parts.Nothing = false
some_part p (parts.Inside j required optional endless) = p j
some_part p (parts.Both j k choice) = p j || p k

-- a node calls a rule, or leads to a call of the rule by the body that it calls or by its operands
abbrev pub leading : List ℕ → (ℕ → Bool) → ℕ → Option ℕ → Parts → Bool
leading roots p r (Some s) ps = nat_eq s r || at_place p (slice_get roots s)
leading roots p r None ps = some_part p ps

-- the answer for a node
abbrev pub answer : Question → List ℕ → (ℕ → Bool) → PassNode → Bool
answer asks.AltersStack roots p n = changing_kind roots p n.kind
answer asks.MayBeStill roots p n = still_kind roots p n.kind
answer (asks.LeadsTo r) roots p n = leading roots p r (called_by n.kind) (parts_of n.kind)

-- the flag of every node is its answer, by the flags of others
abbrev pub AreAnswers : Question → List PassNode → List ℕ → List Bool → Type 0
AreAnswers q ns roots flags = (i : ℕ) (n : PassNode) → slice_get ns i ≡ Some n
    → is_set_at flags i ≡ answer q roots (is_set_at flags) n

-- the answer for a node is yes
abbrev pub Holds : Question → List PassNode → List ℕ → ℕ → Type 0
Holds q ns roots = Follows (answer q roots) ns

-- a flag for each node, and each flag is right
abbrev pub AreSound : Question → List PassNode → List ℕ → List Bool → Type 0
AreSound q ns roots = least.AreSound (answer q roots) ns

-- a node whose answer is yes by the flags has its flag set
abbrev pub AreClosed : Question → List PassNode → List ℕ → List Bool → Type 0
AreClosed q ns roots = least.AreClosed (answer q roots) ns
