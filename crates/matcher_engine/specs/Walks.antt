-- Walks over trees that are given in preorder.
use Rattle.std.specs.Prelude.{◌≡◌, ℕ, suc, ◌+◌, List, [], ◌∷◌, ◌++◌, chars, codes, drop, get_or, if◌then◌else◌, length, map, nat_le, reverse}
use Rattle.std.specs.Borrow.{Bor}
use Rattle.base_language.specs.Language.Expression.{Grammar}
use Rattle.base_language.specs.Language.State.{Trees, None', Tree}
use Rattle.base_language.specs.Language.Text.{Text}
use Rattle.matcher_code.specs.Reached.{count_of}
use Rattle.matcher_code.specs.declared.state.TreeNode.{TreeNode}
use Rattle.matcher_engine.specs.declared.walk.VisitedTree.{VisitedTree}
use Rattle.matcher_engine.specs.declared.walk.Visit as code
use Rattle.matcher_engine.specs.declared.walk.Visit.TheVariants as is
use Rattle.matcher_engine.specs.declared.walk.TreeWalk.{TreeWalk}
use Rattle.matcher_program.specs.ExpectedNames.{name_texts}

-- a tree of a walk: the name of its rule, the tree, its number in preorder, and how many trees hold it
pub record Visited : Type 0 where
  pub rule : Text
  pub node : TreeNode
  pub number : ℕ
  pub depth : ℕ

-- into a tree, and out of it
pub data Visit : Type 0 where
  Enters : Visited → Visit
  Leaves : Visited → Visit

-- the tree of a rule between two positions, which holds these trees
abbrev pub visited : (Text → ℕ) → (number depth : ℕ) → Text → (start end_ : ℕ) → Trees → Visited
visited rule number depth r i j inner = record {
  rule = r;
  node = record { rule = rule r; start = i; end = j; after = suc number + count_of inner };
  number = number;
  depth = depth;
}

-- the walk over trees that a given number of trees hold, if the first has a number: into each, over those
-- that it holds, and out of it
abbrev pub visits : (Text → ℕ) → (number depth : ℕ) → Trees → List Visit
visits rule number depth None' = []
visits rule number depth (Tree r i j inner others) =
    Enters (visited rule number depth r i j inner)
    ∷ visits rule (suc number) (suc depth) inner
    ++ Leaves (visited rule number depth r i j inner)
    ∷ visits rule (suc number + count_of inner) depth others

-- a visit of the code
abbrev pub visited_of : VisitedTree → Visited
visited_of t = record { rule = chars t.rule.now; node = t.node; number = t.number; depth = t.depth }

abbrev pub visit_of : code.Visit → Visit
visit_of (is.Enter t) = Enters (visited_of t)
visit_of (is.Leave t) = Leaves (visited_of t)

-- out of the open trees that have no descendant from a number on, the last opened tree first
abbrev pub closed : ℕ → List Visited → List Visit
closed k [] = []
closed k (t ∷ ts) = if nat_le t.node.after k then Leaves t ∷ closed k ts else []

-- the other open trees
abbrev pub left_open : ℕ → List Visited → List Visited
left_open k [] = []
left_open k (t ∷ ts) = if nat_le t.node.after k then left_open k ts else t ∷ ts

-- the name of a number, and `EOI` after all others
abbrev pub name_in : List Text → ℕ → Text
name_in names k = get_or names k (codes "EOI")

-- the tree of a number, as a walk comes to it
abbrev pub entered : List Text → TreeNode → (number depth : ℕ) → Visited
entered names t number depth =
    record { rule = name_in names t.rule; node = t; number = number; depth = depth }

-- the walk over trees of which the first has a number, and out of the open ones
abbrev pub remaining : List Text → List TreeNode → ℕ → List Visited → List Visit
remaining names [] k open_trees = closed k open_trees
remaining names (t ∷ ts) k open_trees =
    let left = left_open k open_trees in
    let it = entered names t k (length left) in
    closed k open_trees ++ Enters it ∷ remaining names ts (suc k) (it ∷ left)

-- the names of a grammar's rules, in order
abbrev pub AreNamesOf : Grammar → List (Bor (List ℕ)) → Type 0
AreNamesOf g names = name_texts names ≡ map (λ r. r.name) g

-- the rest of a walk
abbrev pub visits_left : TreeWalk → List Visit
visits_left w =
    remaining (name_texts w.names.now) (drop w.number w.trees.now) w.number
    (map visited_of (reverse w.pending.items))
