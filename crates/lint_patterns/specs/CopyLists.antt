-- The values of the code's lists.
use Rattle.std.specs.Prelude.{◌≡◌, ℕ, ◌+◌, List, [], ◌∷◌, ◌++◌, map}
use Rattle.base_language.specs.Language.Expression.{Expression}
use Rattle.lint_patterns.specs.Copies.{copies_by, crowded, size}
use Rattle.lint_patterns.specs.declared.copies.Copied.{Copied}
use Rattle.lint_patterns.specs.declared.copies.Branches.{Branches}
use Rattle.lint_patterns.specs.declared.copies.Branches.TheVariants as is
use Rattle.front_spanned.specs.Nodes.{view}
use Rattle.front_spanned.specs.Spanned.{Binary, Span, Spanned, Leaf, One, Two, Unary, span_of}

-- a node has these operands, of one a given number of copies
abbrev pub HasBranches : Spanned → Branches → Type 0
HasBranches v is.None = (s : Span) × (e : Expression) × (v ≡ Leaf s e)
HasBranches v (is.One x n) = (s : Span) × (f : Unary) × (v ≡ One s f (view x.now)) × (n ≡ copies_by f)
HasBranches v (is.Two x y) = (s : Span) × (f : Binary) × (v ≡ Two s f (view x.now) (view y.now))

-- the spans in the nodes on a stack, from its top to its bottom
abbrev pub left_over : List Copied → List Span
left_over [] = []
left_over (c ∷ cs) = left_over cs ++ map span_of (crowded c.copies (view c.node.now))

-- the number of nodes on a stack and below
abbrev pub nodes_left : List Copied → ℕ
nodes_left [] = 0
nodes_left (c ∷ cs) = nodes_left cs + size (view c.node.now)
