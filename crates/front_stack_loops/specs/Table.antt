-- The nodes of all rules, by number, and what they mean.
use Rattle.std.specs.Prelude.{◌≡◌, ℕ, suc, ◌+◌, ◌*◌, ◌<◌, ◌≤◌, List, [], ◌∷◌, ◌++◌, replicate, length, Option, Some, None, Bool, true, false, if◌then◌else◌, slice_get, unwrap_or, ⊤}
use Rattle.base_graphs.specs.Least.{is_set_at}
use Rattle.front_stack_domain.specs.Stack.{AbstractStack, pop_one, push_mark, failed}
use Rattle.front_stack_domain.specs.Reading.{Reading, surely, maybe, anything, from, peek_all_reading, pop_all_reading, top_reading, drop_reading, pushed_reading, ahead_reading, not_ahead_reading, seq_reading, choice_reading, opt_reading, Copy, Required, Optional, Endless, walked}
use Rattle.front_stack_loops.specs.declared.table.NodeKind.{NodeKind}
use Rattle.front_stack_loops.specs.declared.table.NodeKind.TheVariants as is
use Rattle.front_stack_loops.specs.declared.table.Parts.{Parts}
use Rattle.front_stack_loops.specs.declared.table.Parts.TheVariants as parts
use Rattle.front_stack_loops.specs.declared.table.PassNode.{PassNode}
use Rattle.front_stack_loops.specs.declared.table.Table.{Table}

abbrev pub nodes_of : Table → List PassNode
nodes_of t = t.nodes.items

-- the number of a rule's body, where calls of the rule are followed
abbrev pub followed_at : Table → ℕ → Option ℕ
followed_at t r = if is_set_at t.recursive.items r then None else slice_get t.roots.items r

-- the reading of a call that leads to a node, or isn't followed
abbrev pub call_reading : (ℕ → AbstractStack → Reading) → Option ℕ → AbstractStack → Reading
call_reading f None a = anything
call_reading f (Some j) a = f j a

-- the copies of a repetition: how many are required, how many may fail, and whether turns without end follow
abbrev pub copies : ℕ → ℕ → Bool → List Copy
copies required optional endless = replicate required Required ++ (replicate optional Optional ++
    (if endless then Endless ∷ [] else []))

-- the reading of a node, by those of the others
abbrev pub node_reading : Table → (ℕ → AbstractStack → Reading) → NodeKind → AbstractStack → Reading
node_reading t f is.Still a = surely a
node_reading t f is.Leaf a = maybe a
node_reading t f is.Peek a = top_reading a.marks a.base a
node_reading t f is.Pop a = top_reading a.marks a.base (pop_one a)
node_reading t f is.Drop a = drop_reading a.marks a.base a
node_reading t f is.PeekAll a = peek_all_reading a
node_reading t f is.PopAll a = pop_all_reading a
node_reading t f (is.PushLiteral blank) a = surely (push_mark blank a)
node_reading t f (is.Call r) a = call_reading f (followed_at t r) a
node_reading t f (is.PosPred j) a = ahead_reading a (f j a)
node_reading t f (is.NegPred j) a = not_ahead_reading a (f j a)
node_reading t f (is.Opt j) a = opt_reading a (f j a)
node_reading t f (is.Push j) a = pushed_reading (f j a)
node_reading t f (is.Tag j) a = f j a
node_reading t f (is.Seq j k) a = seq_reading t.skips a (f j a) (from (f j a).ok (f k))
node_reading t f (is.Choice j k) a = choice_reading a (f j a) (from (failed (f j a).err a) (f k))
node_reading t f (is.Repeat j required optional endless) a = walked t.limit (f j) t.skips a
    (copies required optional endless)

-- the operands of a node, as they are visited
abbrev pub parts_of : NodeKind → Parts
parts_of (is.PosPred j) = parts.Inside j 1 0 false
parts_of (is.NegPred j) = parts.Inside j 1 0 false
parts_of (is.Opt j) = parts.Inside j 1 0 false
parts_of (is.Push j) = parts.Inside j 1 0 false
parts_of (is.Tag j) = parts.Inside j 1 0 false
parts_of (is.Repeat j required optional endless) = parts.Inside j required optional endless
parts_of (is.Seq j k) = parts.Both j k false
parts_of (is.Choice j k) = parts.Both j k true
parts_of is.Still = parts.Nothing
parts_of is.Leaf = parts.Nothing
parts_of is.Peek = parts.Nothing
parts_of is.Pop = parts.Nothing
parts_of is.Drop = parts.Nothing
parts_of is.PeekAll = parts.Nothing
parts_of is.PopAll = parts.Nothing
parts_of (is.PushLiteral blank) = parts.Nothing
parts_of (is.Call r) = parts.Nothing

-- readings of the nodes that fit together
abbrev pub IsMeaning : Table → (ℕ → AbstractStack → Reading) → Type 0
IsMeaning t f = (i : ℕ) (n : PassNode) → slice_get (nodes_of t) i ≡ Some n → (a : AbstractStack) → f i a
    ≡ node_reading t f n.kind a

-- the rule that a node calls
abbrev pub called_by : NodeKind → Option ℕ
called_by (is.Call r) = Some r
called_by is.Still = None
called_by is.Leaf = None
called_by is.Peek = None
called_by is.Pop = None
called_by is.Drop = None
called_by is.PeekAll = None
called_by is.PopAll = None
called_by (is.PushLiteral blank) = None
called_by (is.PosPred j) = None
called_by (is.NegPred j) = None
called_by (is.Opt j) = None
called_by (is.Push j) = None
called_by (is.Tag j) = None
called_by (is.Seq j k) = None
called_by (is.Choice j k) = None
called_by (is.Repeat j required optional endless) = None

abbrev pub rank_at : Table → ℕ → ℕ
rank_at t i = unwrap_or (slice_get t.ranks.items i) 0

-- one node is inside another
pub record Inside (t : Table) (i j : ℕ) : Type 0 where
  pub below : j < i
  pub within : j < length (nodes_of t)
  pub rank : rank_at t j ≤ rank_at t i

-- a rule's body is called by a node, and has a lower rank
pub record Called (t : Table) (i j : ℕ) : Type 0 where
  pub within : j < length (nodes_of t)
  pub rank : rank_at t j < rank_at t i
  pub few : rank_at t j < length t.roots.items

abbrev pub LeadsTo : Table → ℕ → Option ℕ → Type 0
LeadsTo t i None = ⊤
LeadsTo t i (Some j) = Called t i j

-- the operands of a node precede it, and have no higher ranks
abbrev pub HasOrderedOperands : Table → ℕ → NodeKind → Type 0
HasOrderedOperands t i (is.Call r) = LeadsTo t i (followed_at t r)
HasOrderedOperands t i (is.PosPred j) = Inside t i j
HasOrderedOperands t i (is.NegPred j) = Inside t i j
HasOrderedOperands t i (is.Opt j) = Inside t i j
HasOrderedOperands t i (is.Push j) = Inside t i j
HasOrderedOperands t i (is.Tag j) = Inside t i j
HasOrderedOperands t i (is.Seq j k) = Inside t i j × Inside t i k
HasOrderedOperands t i (is.Choice j k) = Inside t i j × Inside t i k
HasOrderedOperands t i (is.Repeat j required optional endless) = Inside t i j
HasOrderedOperands t i _ = ⊤

abbrev pub IsOrdered : Table → Type 0
IsOrdered t = (i : ℕ) (n : PassNode) → slice_get (nodes_of t) i ≡ Some n → HasOrderedOperands t i n.kind

-- the bodies of the rules are nodes
abbrev pub AreInside : Table → Type 0
AreInside t = (r i : ℕ) → slice_get t.roots.items r ≡ Some i → i < length (nodes_of t)

-- how much there may be to read from a node on
abbrev pub level : Table → ℕ → ℕ
level t i = rank_at t i * suc (length (nodes_of t)) + i

-- and so do these
abbrev pub AreOrderedParts : Table → ℕ → Parts → Type 0
AreOrderedParts t i (parts.Inside j required optional endless) = Inside t i j
AreOrderedParts t i (parts.Both j k choice) = Inside t i j × Inside t i k
AreOrderedParts t i parts.Nothing = ⊤

-- these are the parts of a node
pub record HasParts (t : Table) (i : ℕ) (ps : Parts) : Type 0 where
  pub node : PassNode
  pub at : slice_get (nodes_of t) i ≡ Some node
  pub parts : parts_of node.kind ≡ ps
