-- The effect of the passes, one after another, on rules.
use Rattle.std.specs.Prelude.{◌≡◌, ◌++◌, ◌∷◌, []}
use Rattle.std.specs.HashMap.{HashMap}
use Rattle.std.specs.declared.alloc.Global.{Global}
use Rattle.std.specs.declared.string.String.{String}
use Rattle.base_language.specs.Language.Expression.{Expression, RuleType, Rule, Grammar}
use Rattle.base_language.specs.Rewritings.Erased.{erased}
use Rattle.base_language.specs.Rewritings.Listing.{listed, EachListed}
use Rattle.base_language.specs.Rewritings.Rewriting.{Chain, EachBody, Factors, IsDone, Joins, KeepsAny, Many, Rotates, SameOutcomes, SkipsUntil, Unrolls}
use Rattle.base_language.specs.Rewritings.Wrapping.{EachRestored}
use Rattle.front_restorer.specs.Changing.{HasNoWrappers}
use Rattle.base_ast.specs.declared.ast.Expr.{Expr}
use Rattle.front_optimizer.specs.Bodies.{SufficeFor}
use Rattle.front_optimizer.specs.Here.{factored_here}
use Rattle.front_optimizer.specs.Traversals.{TopDown}
use Rattle.front_optimizer.specs.Unrolled.{IsUnrolled}

-- counted repetitions are written out, and none is left
pub record IsUnrolling (a b : Expression) : Type 0 where
  pub steps : Many Unrolls a b
  pub unrolled : IsUnrolled b

-- in a rule of a type, each choice is factored once, from the root down
pub record IsFactoring (y : RuleType) (a b : Expression) : Type 0 where
  pub steps : Many (Factors y) a b
  pub each_once : TopDown (λ c d. factored_here y c ≡ d) a b

-- an expression, without its wrappers, is the listing
abbrev pub IsListing : Expression → Expression → Type 0
IsListing a b = erased b ≡ listed a

-- the passes up to the listing over the body of a rule of a type, `skip` looking names up in the rules
pub record IsOptimizedBody (rules : Grammar) (y : RuleType) (a b : Expression) : Type 0 where
  pub rotated : Expression
  pub skipped : Expression
  pub unrolled : Expression
  pub joined : Expression
  pub factored : Expression
  pub rotates : IsDone Rotates a rotated
  pub skips : IsDone (SkipsUntil rules y) rotated skipped
  pub unrolls : IsUnrolling skipped unrolled
  pub joins : IsDone (Joins y) unrolled joined
  pub factors : IsFactoring y joined factored
  pub lists : b ≡ listed factored
  pub bare : HasNoWrappers b

-- one more optimized rule is added, where `skip` looks names up in any rules that suffice for it
pub record AddsOptimized {S : Type 0} (bodies : HashMap (String Global) Expr S) (rule : Rule)
    (old new : Grammar) : Type 0 where
  pub body : Expression
  pub added : new ≡ old ++ (record rule { body = body } ∷ [])
  pub optimized : (g : Grammar) → SufficeFor bodies g (rule ∷ [])
      → IsOptimizedBody g rule.type_of rule.body body

-- the passes up to the listing, with the grammar after each; `skip` looks names up in the rules as they
-- were at first
pub record Passes (rules factored : Grammar) : Type 0 where
  pub rotated : Grammar
  pub skipped : Grammar
  pub unrolled : Grammar
  pub joined : Grammar
  pub rotates : EachBody (λ y. IsDone Rotates) rules rotated
  pub skips : EachBody (λ y. IsDone (SkipsUntil rules y)) rotated skipped
  pub unrolls : EachBody (λ y. IsUnrolling) skipped unrolled
  pub joins : EachBody (λ y. IsDone (Joins y)) unrolled joined
  pub factors : EachBody IsFactoring joined factored

-- the answer, without wrappers, is the listing of a grammar to which a chain leads by way of the passes,
-- and that has the same outcomes; the answer has wrappers just where the restorer puts them in the
-- listing
pub record IsOptimized (rules answer : Grammar) : Type 0 where
  pub reached : Grammar
  pub listing : Grammar
  pub passes : Passes rules reached
  pub chain : Chain rules reached
  pub outcomes : KeepsAny rules → SameOutcomes rules reached
  pub listed : EachListed reached listing
  pub restored : EachRestored listing answer
  pub lists : EachBody (λ y. IsListing) reached answer
