-- Rules as they are written, with counted repetitions as the copies that they mean.
use Rattle.std.specs.Prelude.{◌≡◌, ◌++◌, ◌∷◌, []}
use Rattle.base_language.specs.Language.Expression.{Expression, Grammar, Rule}
use Rattle.base_language.specs.Rewritings.Rewriting.{EachBody}
use Rattle.front_optimizer.specs.Passes.{IsUnrolling}

-- rule by rule, counted repetitions are written out, and all else is as it was
abbrev pub AreWrittenOut : Grammar → Grammar → Type 0
AreWrittenOut = EachBody (λ y. IsUnrolling)

-- one more rule is added, with its counted repetitions written out
pub record AddsWrittenOut (rule : Rule) (old new : Grammar) : Type 0 where
  pub body : Expression
  pub added : new ≡ old ++ (record rule { body = body } ∷ [])
  pub unrolls : IsUnrolling rule.body body
