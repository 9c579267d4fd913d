-- The layout of the node table: the nodes inside a node are right before it.
use Rattle.std.specs.Prelude.{◌≡◌, ℕ, List, [], ◌∷◌, ◌++◌, Some, None, slice_get, flat_map, map, ⊤}
use Rattle.std.specs.Borrow.{Bor}
use Rattle.front_spanned.specs.Nodes.{view}
use Rattle.front_spanned.specs.Spanned.{Spanned, Leaf, One, Two}
use Rattle.front_spanned.specs.declared.node.ParserNode.{ParserNode}
use Rattle.front_analysis.specs.Nodes.{postorder}
use Rattle.front_analysis.specs.Shapes.{AreNodes}
use Rattle.front_analysis.specs.declared.table.Node.{Node}
use Rattle.front_analysis.specs.declared.table.Unnumbered.{Unnumbered}

-- the nodes of a list, with all nodes inside them, in postorder
abbrev pub all_below : List (Bor ParserNode) → List Spanned
all_below ns = flat_map (λ n. postorder (view n.now)) ns

-- the nodes of a list, from its end to its start
abbrev pub forwards : List (Bor ParserNode) → List Spanned
forwards [] = []
forwards (n ∷ ns) = forwards ns ++ view n.now ∷ []

-- a node comes after these, the last of which are inside it
abbrev pub IsAfter : List Spanned → Spanned → Type 0
IsAfter front (Leaf s e) = ⊤
IsAfter front (One s f x) = (others : List Spanned) × (front ≡ others ++ postorder x)
IsAfter front (Two s f x y) = (others : List Spanned) × (front ≡ (others ++ postorder x) ++ postorder y)

-- no node waits for its number
pub record NothingWaits (unnumbered : Unnumbered) : Type 0 where
  pub waiting : unnumbered.waiting.items ≡ []
  pub inside : unnumbered.inside.items ≡ []

-- every node comes after those inside it
abbrev pub AreLaidOut : List Spanned → Type 0
AreLaidOut nodes = (front : List Spanned) (x : Spanned) (back : List Spanned)
    → nodes ≡ front ++ x ∷ back → IsAfter front x

-- the number of the first node inside a node, or its own
abbrev pub start_at : List Node → ℕ → ℕ
start_at ns i = elim (slice_get ns i) [
  | Some n ↦ n.start
  | None ↦ 0
]

-- these nodes are laid out, and the list describes them
pub record AreNumbered (all : List Spanned) (ns : List Node) : Type 0 where
  pub laid_out : AreLaidOut all
  pub nodes : AreNodes all ns

-- the numbers of the rules in which the nodes are
abbrev pub rule_numbers : List Node → List ℕ
rule_numbers ns = map (λ (n : Node). n.rule) ns
