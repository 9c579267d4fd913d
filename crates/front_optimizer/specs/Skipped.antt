-- The outcomes that `skip` keeps, over the grammar whose bodies the map holds.
use Rattle.std.specs.Prelude.{◌∷◌, ◌++◌}
use Rattle.std.specs.HashMap.{HashMap}
use Rattle.std.specs.declared.alloc.Global.{Global}
use Rattle.std.specs.declared.string.String.{String}
use Rattle.base_language.specs.Language.Expression.{Rule, Grammar}
use Rattle.base_language.specs.Rewritings.Rewriting.{Chain, KeepsAny, SameOutcomes}
use Rattle.base_ast.specs.declared.ast.Expr.{Expr}
use Rattle.front_optimizer.specs.Bodies.{HoldsBodies}

-- in a grammar that has the first rule and whose bodies the map holds, a chain of steps puts the second in
-- its place
abbrev pub IsSkipChained : {S : Type 0} → HashMap (String Global) Expr S → Rule → Rule → Type 0
IsSkipChained m r q = (before after : Grammar) → HoldsBodies m (before ++ r ∷ after)
    → Chain (before ++ r ∷ after) (before ++ q ∷ after)

-- and if none of its rules is named ANY, that leaves all outcomes as they were
abbrev pub SkipKeepsOutcomes : {S : Type 0} → HashMap (String Global) Expr S → Rule → Rule → Type 0
SkipKeepsOutcomes m r q = (before after : Grammar) → HoldsBodies m (before ++ r ∷ after)
    → KeepsAny (before ++ r ∷ after)
    → SameOutcomes (before ++ r ∷ after) (before ++ q ∷ after)
