-- The passes from `unroll` to `factor`, one after another.
use Rattle.std.proofs.Common.{◌≡◌, Result, Ok, Err, IfOk, subst}
use Rattle.base_ast.specs.Ast.{expression_of}
use Rattle.base_ast.specs.declared.ast.Rule.{Rule}
use Rattle.base_language.specs.Language.Expression.{Expression, RuleType}
use Rattle.base_language.specs.Rewritings.Rewriting.{Factors, IsDone, Joins, Many, Unrolls}
use Rattle.lint_patterns.specs.Rewritten.{IsPassed}
use Rattle.front_optimizer.specs.Here.{factored_here}
use Rattle.front_optimizer.specs.Passes.{IsFactoring}
use Rattle.front_optimizer.specs.Traversals.{TopDown}
use Rattle.front_optimizer.specs.Unrolled.{IsUnrolled}

pub passed_by : {E : Type 0} (y z w : RuleType) (a u j : Expression) (result : Result Rule E) → Many Unrolls a u → IsUnrolled u → IsDone (Joins z) u j → z ≡ y → w ≡ y
    → IfOk result (λ r. Many (Factors w) j (expression_of r.expr)) → IfOk result (λ r. TopDown (λ c d. factored_here w c ≡ d) j (expression_of r.expr))
    → IfOk result (λ r. IsPassed y a (expression_of r.expr))
passed_by y z w a u j (Ok r) steps none done e h s t = record {
  unrolled = u;
  joined = j;
  unrolls = record { steps = steps; unrolled = none };
  joins = subst (λ x. IsDone (Joins x) u j) e done;
  factors = subst (λ x. IsFactoring x j (expression_of r.expr)) h (record { steps = s; each_once = t });
}
passed_by y z w a u j (Err x) steps none done e h s t = tt
