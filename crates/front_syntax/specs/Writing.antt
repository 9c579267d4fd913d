-- TokenEvents that are written from nodes.
use Rattle.std.specs.Prelude.{◌≡◌, ℕ, suc, ◌+◌, ◌-◌, ◌*◌, List, [], ◌∷◌, ◌++◌, false, ⊤, length, nat_le, if◌then◌else◌}
use Rattle.base_language.specs.Pieces.MetaRules.{name_of}
use Rattle.front_code.specs.Numbers.{rule_numbered}
use Rattle.matcher_code.specs.declared.state.TreeNode.{TreeNode}
use Rattle.front_syntax.specs.TokenEvents.{TokenEvent, Starts, Ends}
use Rattle.front_syntax.specs.declared.events.Open.{Open}

-- the ends of the open trees that have no descendant from a number on, the last opened tree first
abbrev pub closing : ℕ → List Open → List TokenEvent
closing k [] = []
closing k (t ∷ ts) = if nat_le t.after k then Ends t.end t.first ∷ closing k ts else []

-- the other open trees
abbrev pub left_open : ℕ → List Open → List Open
left_open k [] = []
left_open k (t ∷ ts) = if nat_le t.after k then left_open k ts else t ∷ ts

-- the last opened tree has descendants from a number on, or no tree is open
abbrev pub GoesOn : ℕ → List Open → Type 0
GoesOn k [] = ⊤
GoesOn k (t ∷ ts) = nat_le t.after k ≡ false

-- the tree of a node, where a given number of events are before its own
abbrev pub opened : TreeNode → ℕ → Open
opened t n = record { first = n; end = t.end; after = t.after }

-- the first event of the node of a number, after a given number of events
abbrev pub start_event : TreeNode → ℕ → ℕ → TokenEvent
start_event t k n = Starts (name_of (rule_numbered t.rule)) t.start (n + 1 + 2 * (t.after - suc k))

-- the events that are left of nodes, the first of which has the number k, after n events and within the
-- open trees
abbrev pub left_events : List TreeNode → ℕ → ℕ → List Open → List TokenEvent
left_events [] k n os = closing k os
left_events (t ∷ ts) k n os =
    let m = n + length (closing k os) in
    closing k os ++ start_event t k m ∷ left_events ts (suc k) (suc m) (opened t m ∷ left_open k os)
