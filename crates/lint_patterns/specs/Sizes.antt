-- Sizes of rules where counts are written out.
use Rattle.std.specs.Prelude.{ℕ, ◌+◌, ◌*◌, List, [], ◌∷◌}
use Rattle.front_spanned.specs.Nodes.{view}
use Rattle.front_spanned.specs.Spanned.{Spanned, SpannedRule, Leaf, One, Two}
use Rattle.lint_patterns.specs.Copies.{copies_by}
use Rattle.lint_patterns.specs.declared.copies.Copied.{Copied}

-- the number of nodes of `n` copies of an expression in which each counted repetition is written out
abbrev pub nodes : ℕ → Spanned → ℕ
nodes n (Leaf s e) = n
nodes n (One s f x) = n + nodes (n * copies_by f) x
nodes n (Two s f x y) = n + (nodes n x + nodes n y)

-- the same of the bodies of rules
abbrev pub nodes_of_rules : List SpannedRule → ℕ
nodes_of_rules [] = 0
nodes_of_rules (r ∷ rs) = nodes 1 r.body + nodes_of_rules rs

-- and of the nodes on a stack
abbrev pub nodes_on : List Copied → ℕ
nodes_on [] = 0
nodes_on (c ∷ cs) = nodes_on cs + nodes c.copies (view c.node.now)
