-- The values of the code's lists and sets.
use Rattle.std.specs.Prelude.{◌≡◌, ℕ, ◌+◌, List, [], ◌∷◌, ◌++◌, Bool, true, false, length, nat_eq}
use Rattle.std.specs.HashSet.{HashSet, contains}
use Rattle.std.specs.declared.alloc.Global.{Global}
use Rattle.std.specs.declared.hash.BuildHasherDefault.{BuildHasherDefault}
use Rattle.std.specs.declared.hash.FoldHasher.{FoldHasher}
use Rattle.std.specs.declared.vec.Vec.{Vec}
use lib.Pointwise.{pointwise}
use Rattle.base_language.specs.Language.Expression.{Expression}
use Rattle.lint_patterns.specs.Duplicates.{is_among, is_compared, repeated_after, repeated_in}
use Rattle.lint_patterns.specs.Keys.{key}
use Rattle.lint_patterns.specs.declared.alternatives.Placed.{Placed}
use Rattle.front_spanned.specs.Nodes.{view}
use Rattle.front_spanned.specs.Spanned as spanned
use Rattle.front_spanned.specs.Spanned.{Span, Spanned, Leaf, One, Two}
use Rattle.front_spanned.specs.Walk.{preorder}

-- the spans in the operands of a node
abbrev pub inner_spans : Spanned → List Span
inner_spans (Leaf s e) = []
inner_spans (One s f x) = repeated_in false x
inner_spans (Two s spanned.Seq x y) = repeated_in false x ++ repeated_in false y
inner_spans (Two s spanned.Choice x y) = repeated_in true x ++ repeated_in true y

-- the spans in the nodes on a stack, from its top to its bottom
abbrev pub spans_left : List Placed → List Span
spans_left [] = []
spans_left (p ∷ ps) = spans_left ps ++ repeated_in p.is_alternative (view p.node.now)

-- the number of nodes on a stack and below
abbrev pub nodes_left : List Placed → ℕ
nodes_left [] = 0
nodes_left (p ∷ ps) = nodes_left ps + length (preorder (view p.node.now))

-- a set of keys
abbrev pub KeySet : Type 0
KeySet = HashSet (Vec ℕ Global) (BuildHasherDefault FoldHasher)

abbrev pub same_key : Vec ℕ Global → Vec ℕ Global → Bool
same_key k l = pointwise nat_eq k.items l.items

-- of the expressions that are compared, the set has the keys of just these
abbrev pub KnowsKeys : List Spanned → KeySet → Type 0
KnowsKeys xs set = (e : Expression) (k : Vec ℕ Global) → k.items ≡ key e → is_compared e ≡ true
    → contains same_key set k ≡ is_among xs e

-- the spans found so far, and those still to be found among the alternatives left after the earlier ones,
-- whose keys are known, are all
pub record CollectsRepeated (all : List Span) (earlier left : List Spanned) (seen : KeySet)
    (found : List Span) : Type 0 where
  pub knows : KnowsKeys earlier seen
  pub spans : all ≡ found ++ repeated_after earlier left
