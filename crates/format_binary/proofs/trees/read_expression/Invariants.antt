use Rattle.std.proofs.Common.{◌≡◌, ℕ, suc, List, ◌++◌, length}
use Rattle.base_ast.specs.declared.optimized.OptimizedExpr.{OptimizedExpr}
use Rattle.format_binary.specs.Format.{optimized_expression_bytes}
use Rattle.format_binary.specs.Fronts.{ExpressionsFollow, missing}
use Rattle.format_binary.specs.Reading.{AreWithin, open_bytes}
use Rattle.format_binary.proofs.trees.read_expression.Given as goal

-- what is read are the operators that lack operands
abbrev pub invariant-nodes : goal.invariant-nodes
invariant-nodes l = record {
  read : open_bytes l.waiting.items ++ l.input.rest.now ≡ l.fn.input.rest.now;
  indices : AreWithin l.waiting.items;
  left : (x : OptimizedExpr) (rest : List ℕ) → l.fn.input.rest.now ≡ optimized_expression_bytes x ++ rest → ExpressionsFollow (suc (missing l.waiting.items)) l.input.rest.now rest;
}

abbrev pub decreases-nodes : goal.decreases-nodes
decreases-nodes l = length l.input.rest.now
