-- Operands that are missing, and the expressions that are read for them.
use Rattle.std.proofs.Common.{◌≡◌, refl, sym, ◌∙◌, ap, subst, ℕ, suc, ◌+◌, List, [], ◌∷◌, ◌++◌, arith}
use Rattle.base_ast.specs.declared.optimized.OptimizedExpr.{OptimizedExpr}
use Rattle.format_binary.specs.Format.{optimized_expression_bytes}
use Rattle.format_binary.specs.Fronts.{BeginsWithExpression, ExpressionsFollow, OperandsFollow, missing}
use Rattle.format_binary.specs.declared.operators.FirstNode.{FirstNode}
use Rattle.format_binary.specs.declared.operators.FirstNode.TheVariants as first
use Rattle.format_binary.specs.declared.trees.OpenOperator.{OpenOperator}
use Rattle.format_binary.specs.declared.trees.OpenOperator.TheVariants as open_as

missing_last : (os : List OpenOperator) (o : OpenOperator) → missing (os ++ o ∷ []) ≡ missing os + missing (o ∷ [])
missing_last [] o = omega arith
missing_last (open_as.One op ∷ os) o = missing_last os o
missing_last (open_as.First op ∷ os) o = omega (arith, missing_last os o)
missing_last (open_as.Second op left ∷ os) o = missing_last os o

pub missing_with : (old new : List OpenOperator) (o p : OpenOperator) → old ≡ new ++ o ∷ [] → o ≡ p → missing old ≡ missing new + missing (p ∷ [])
missing_with old new o p e f = ap missing e ∙ (missing_last new o ∙ ap (λ x. missing new + missing (x ∷ [])) f)

-- an expression is next
pub first_of : (n : ℕ) (bytes rest : List ℕ) → ExpressionsFollow (suc n) bytes rest → BeginsWithExpression bytes
first_of n bytes rest h = record { value = h.0; rest = h.1; same = h.2 }

pub none_follow : (n : ℕ) (bytes rest : List ℕ) → n ≡ 0 → ExpressionsFollow n bytes rest → bytes ≡ rest
none_follow n bytes rest e h = let x : ExpressionsFollow 0 bytes rest = subst (λ k. ExpressionsFollow k bytes rest) e h in x

-- the first node of the next expression was read
module _ (n : ℕ) (old new rest : List ℕ) (node : FirstNode) (follows : (x : OptimizedExpr) (rest : List ℕ) → old ≡ optimized_expression_bytes x ++ rest → OperandsFollow node new rest) where
  abbrev After : FirstNode → Type 0
  After (first.Whole x) = ExpressionsFollow n new rest
  After (first.One op) = ExpressionsFollow (suc n) new rest
  After (first.Two op) = ExpressionsFollow (suc (suc n)) new rest

  after : (it : FirstNode) (more : List ℕ) → ExpressionsFollow n more rest → OperandsFollow it new more → After it
  after (first.Whole x) more h o = subst (λ bs. ExpressionsFollow n bs rest) (sym o) h
  after (first.One op) more h o = (o.0, more, o.1, h)
  after (first.Two op) more h o = (o.0, optimized_expression_bytes o.1 ++ more, o.2, (o.1, more, refl, h))

  pub after_node : ExpressionsFollow (suc n) old rest → (it : FirstNode) → node ≡ it → After it
  after_node h it e = subst After e (after node h.1 h.3 (follows h.0 h.1 h.2))
