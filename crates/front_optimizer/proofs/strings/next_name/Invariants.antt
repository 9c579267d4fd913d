use Rattle.base_ast.specs.Ast.{expression_of}
use Rattle.base_ast.specs.Operands.{count_of_nodes}
use Rattle.front_optimizer.proofs.Following.{Follows}
use Rattle.front_optimizer.proofs.strings.next_name.Given as goal

abbrev pub invariant-along : goal.invariant-along
invariant-along l = Follows l.met (expression_of l.fn.expr) (expression_of l.rest)

abbrev pub decreases-along : goal.decreases-along
decreases-along l = count_of_nodes (expression_of l.rest)
