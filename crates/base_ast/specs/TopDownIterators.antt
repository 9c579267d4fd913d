-- The items of the iterators over expressions.
use Rattle.std.specs.Prelude.{◌≡◌, ◌<◌, List, [], ◌∷◌, ◌++◌, length, Option, MatchOption, Result, MatchResult, alloc_error}
use Rattle.base_language.specs.Language.Expression.{Expression}
use Rattle.base_language.specs.declared.runtime.faults.Fault.{Fault}
use Rattle.base_language.specs.declared.runtime.faults.Fault.TheVariants.{Memory}
use Rattle.base_ast.specs.Operands.{preorder}

-- `says x`: the expression that a value x of code says
module _ {E : Type 0} (says : E → Expression) where
  -- the nodes of the expressions on a stack, from its top to its bottom; the last of the list is the top
  abbrev pub waiting : List E → List Expression
  waiting [] = []
  waiting (x ∷ xs) = waiting xs ++ preorder (says x)

  -- `left i`: the expressions that an iterator i has still to give
  module _ {I : Type 0} (left : I → List Expression) where
    -- the first is given, if there is one; or memory for it is refused, and from then on there is none
    abbrev pub YieldsFirstOrFails : I → Option (Result E Fault) → I → Type 0
    YieldsFirstOrFails old given new = MatchOption given
        ((left old ≡ []) × (left new ≡ []))
        (λ item. MatchResult item
        (λ x. left old ≡ says x ∷ left new)
        (λ fault. (fault ≡ Memory alloc_error) × (0 < length (left old)) × (left new ≡ [])))
