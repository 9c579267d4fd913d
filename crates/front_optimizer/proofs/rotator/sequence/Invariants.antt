use Rattle.std.proofs.Common.{◌≡◌, ◌+◌}
use Rattle.base_language.specs.Language.Expression.{Expression, Seq}
use Rattle.base_ast.specs.Ast.{expression_of}
use Rattle.base_language.specs.Rewritings.Rewriting.{Rotates}
use Rattle.front_optimizer.specs.Here.{Exhausted}
use Rattle.base_ast.specs.Operands.{count_of_nodes}
use Rattle.front_optimizer.proofs.rotator.sequence.Given as goal

abbrev pub invariant-turn : goal.invariant-turn
invariant-turn l =
    ((b : Expression) → Exhausted Rotates (Seq (expression_of l.left.value) (expression_of l.right.value)) b
    → Exhausted Rotates (Seq (expression_of l.fn.left.value) (expression_of l.fn.right.value)) b)
    × (count_of_nodes (expression_of l.left.value) + count_of_nodes (expression_of l.right.value) ≡ count_of_nodes (expression_of l.fn.left.value) + count_of_nodes (expression_of l.fn.right.value))

abbrev pub decreases-turn : goal.decreases-turn
decreases-turn l = count_of_nodes (expression_of l.left.value)
