-- The nodes of all bodies, in postorder.
use Rattle.std.specs.Prelude.{ℕ, suc, ◌+◌, List, [], ◌∷◌, ◌++◌, flat_map, ⊤}
use Rattle.base_language.specs.Language.Expression as bare
use Rattle.base_language.specs.Language.Expression.{Expression}
use Rattle.front_spanned.specs.Nodes.{rule_views}
use Rattle.front_spanned.specs.Spanned.{Spanned, Leaf, One, Two, SpannedRule}
use Rattle.front_spanned.specs.declared.node.ParserRule.{ParserRule}

-- the number of nodes in a tree
abbrev pub size : Spanned → ℕ
size (Leaf s e) = 1
size (One s f x) = suc (size x)
size (Two s f x y) = suc (size x + size y)

-- a node and all nodes inside it in postorder: a node after those inside it, the left one before the
-- right
abbrev pub postorder : Spanned → List Spanned
postorder (Leaf s e) = Leaf s e ∷ []
postorder (One s f x) = postorder x ++ One s f x ∷ []
postorder (Two s f x y) = (postorder x ++ postorder y) ++ Two s f x y ∷ []

-- the nodes of all bodies, also of a rule that a later one of its name hides
abbrev pub every_node : List SpannedRule → List Spanned
every_node rules = flat_map (λ r. postorder r.body) rules

-- the nodes of all bodies of rules of code
abbrev pub all_nodes : List ParserRule → List Spanned
all_nodes rules = every_node (rule_views rules)

-- an expression without operands
abbrev pub IsSimple : Expression → Type 0
IsSimple (bare.Str t) = ⊤
IsSimple (bare.Insens t) = ⊤
IsSimple (bare.Range t u) = ⊤
IsSimple (bare.Ident n) = ⊤
IsSimple (bare.PeekSlice i j) = ⊤
IsSimple (bare.PushLiteral t) = ⊤
IsSimple _ = ⊥
