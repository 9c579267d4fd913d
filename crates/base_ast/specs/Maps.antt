-- The result of a map of an expression: the tree that the answers of the closure determine.
use Rattle.std.specs.Prelude.{◌≡◌, ◌≤◌, ◌⊎◌, List, [], ◌∷◌, Result, Ok, Err, alloc_error}
use Rattle.base_language.specs.Language.Expression.{Expression}
use Rattle.base_language.specs.declared.runtime.faults.Fault.{Fault}
use Rattle.base_language.specs.declared.runtime.faults.Fault.TheVariants.{Memory}
use Rattle.base_ast.specs.Operands.{operands, over, count_of_nodes}

-- how far calls of a closure have come: `Ok f` is called next; `Err fault` was answered, and there are no
-- more calls
abbrev pub Progress : Type 0 → Type 0
Progress F = Result F Fault

-- `says x`: the expression that a value x of code says; `step f x r g`: a call of `f` at x answers r and
-- leaves `g`
module _ {F E : Type 0} (says : E → Expression) (step : F → E → Result E Fault → F → Type 0) where
  -- a call of `f` at `a` answered `b`, and left `g`
  pub record Answers (f : F) (a b : Expression) (g : F) : Type 0 where
    pub node : E
    pub answer : E
    pub node_says : says node ≡ a
    pub answer_says : says answer ≡ b
    pub called : step f node (Ok answer) g

  -- a call of `f` at `a` answered a fault
  pub record Refuses (f : F) (a : Expression) (fault : Fault) : Type 0 where
    pub node : E
    pub after : F
    pub node_says : says node ≡ a
    pub called : step f node (Err fault) after

  -- the result of a call of `f`; once `f` answers a fault, that fault stays
  pub data Becomes : Progress F → Expression → Expression → Progress F → Type 0 where
    answered : {f g : F} {a b : Expression} → Answers f a b g → Becomes (Ok f) a b (Ok g)
    refused : {f : F} {a : Expression} {fault : Fault} → Refuses f a fault → Becomes (Ok f) a a (Err fault)
    stayed : {a : Expression} {fault : Fault} → Becomes (Err fault) a a (Err fault)

  mutual
    -- a call at the expression, then a map of each operand of its answer
    pub data TopDown : Progress F → Expression → Expression → Progress F → Type 0 where
      met : {s t u : Progress F} {a m : Expression} {xs : List Expression}
          → Becomes s a m t → EachTopDown t (operands m) xs u
          → TopDown s a (over m xs) u

    pub data EachTopDown : Progress F → List Expression → List Expression → Progress F → Type 0 where
      none_met : {s : Progress F} → EachTopDown s [] [] s
      next_met : {s t u : Progress F} {a b : Expression} {xs ys : List Expression}
          → TopDown s a b t → EachTopDown t xs ys u
          → EachTopDown s (a ∷ xs) (b ∷ ys) u

  mutual
    -- a map of each operand, then a call at the result
    pub data BottomUp : Progress F → Expression → Expression → Progress F → Type 0 where
      left : {s t u : Progress F} {a b : Expression} {xs : List Expression}
          → EachBottomUp s (operands a) xs t → Becomes t (over a xs) b u
          → BottomUp s a b u

    pub data EachBottomUp : Progress F → List Expression → List Expression → Progress F → Type 0 where
      none_left : {s : Progress F} → EachBottomUp s [] [] s
      next_left : {s t u : Progress F} {a b : Expression} {xs ys : List Expression}
          → BottomUp s a b t → EachBottomUp t xs ys u
          → EachBottomUp s (a ∷ xs) (b ∷ ys) u

  -- calls from `f` on, node before operands, turn x into y
  abbrev pub MapsTopDown : F → E → E → Type 0
  MapsTopDown f x y = (last : F) × TopDown (Ok f) (says x) (says y) (Ok last)

  -- memory is refused, or such calls come to a fault that one of them answers
  abbrev pub RefusesTopDown : F → E → Fault → Type 0
  RefusesTopDown f x fault =
      (fault ≡ Memory alloc_error) ⊎ ((b : Expression) × TopDown (Ok f) (says x) b (Err fault))

  -- calls from `f` on, operands before node, turn x into y
  abbrev pub MapsBottomUp : F → E → E → Type 0
  MapsBottomUp f x y = (last : F) × BottomUp (Ok f) (says x) (says y) (Ok last)

  abbrev pub RefusesBottomUp : F → E → Fault → Type 0
  RefusesBottomUp f x fault =
      (fault ≡ Memory alloc_error) ⊎ ((b : Expression) × BottomUp (Ok f) (says x) b (Err fault))

  -- no call answers an expression of more nodes than it got
  abbrev pub NeverGrows : Type 0
  NeverGrows = (f : F) (x y : E) (g : F)
      → step f x (Ok y) g → count_of_nodes (says y) ≤ count_of_nodes (says x)
