-- One rule in the place of another.
use Rattle.std.specs.Prelude.{◌∷◌, ◌++◌}
use Rattle.base_language.specs.Language.Expression.{Rule, Grammar}
use Rattle.base_language.specs.Rewritings.Rewriting.{Chain, SameOutcomes}

-- in every grammar that has the first rule, the second in its place leaves all outcomes as they were
abbrev pub KeepsOutcomes : Rule → Rule → Type 0
KeepsOutcomes r q = (before after : Grammar) → SameOutcomes (before ++ r ∷ after) (before ++ q ∷ after)

-- in every grammar that has the first rule, a chain of steps puts the second in its place
abbrev pub IsChained : Rule → Rule → Type 0
IsChained r q = (before after : Grammar) → Chain (before ++ r ∷ after) (before ++ q ∷ after)
