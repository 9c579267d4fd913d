-- Walks over the nodes of an expression, each before those inside it.
use Rattle.std.specs.Prelude.{◌≡◌, List, [], ◌∷◌, ◌++◌, Option, option_to_list}
use Rattle.std.specs.Borrow.{Bor}
use Rattle.front_spanned.specs.Nodes.{view}
use Rattle.front_spanned.specs.Spanned.{Spanned, Leaf, One, Two}
use Rattle.front_spanned.specs.declared.node.ParserNode.{ParserNode}

-- a node and all nodes below it, each before those inside it, the left one before the right
abbrev pub preorder : Spanned → List Spanned
preorder (Leaf s e) = Leaf s e ∷ []
preorder (One s f x) = One s f x ∷ preorder x
preorder (Two s f x y) = Two s f x y ∷ (preorder x ++ preorder y)

-- the nodes on a stack, each with all below it, from the top of the stack to its bottom
abbrev pub waiting : List (Bor ParserNode) → List Spanned
waiting [] = []
waiting (n ∷ ns) = waiting ns ++ preorder (view n.now)

-- `step f n r g`: a call of `f` at `n` may answer `r` and leave `g`
module _ {F T : Type 0} (step : F → ParserNode → Option T → F → Type 0) where
  -- a call of `f` at a node that reads as `x` answered `r`, and left `g`
  pub record AnsweredAt (f : F) (x : Spanned) (r : Option T) (g : F) : Type 0 where
    pub node : ParserNode
    pub reads : view node ≡ x
    pub called : step f node r g

  -- calls from `f` on, one at each node in turn, left `last`, and `answers` are their answers, in order
  abbrev pub Answered : F → List Spanned → F → List T → Type 0
  Answered f [] last answers = (last ≡ f) × (answers ≡ [])
  Answered f (x ∷ xs) last answers =
      (r : Option T) × (g : F) × (others : List T) × AnsweredAt f x r g × Answered g xs last others
      × (answers ≡ option_to_list r ++ others)

  -- such calls at the first of a node and all below it, and at no others
  abbrev pub AnsweredFirst : F → Spanned → F → Type 0
  AnsweredFirst f x last = (met others : List Spanned) × (answers : List T) × (met ++ others ≡ preorder x)
      × Answered f met last answers

  -- such calls at a node and all below it, and their answers follow those that were there
  abbrev pub Appended : F → Spanned → F → List T → List T → Type 0
  Appended f x last before after = (answers : List T) × Answered f (preorder x) last answers
      × (after ≡ before ++ answers)
