use Rattle.base_ast.specs.Ast.{expression_of}
use Rattle.front_optimizer.proofs.CountedByList.{Waits}
use Rattle.front_optimizer.proofs.Staying.{nodes_of}
use Rattle.front_optimizer.proofs.counts.is_readable_by_list.Given as goal

abbrev pub invariant-nodes : goal.invariant-nodes
invariant-nodes l = Waits (expression_of l.fn.expr) l.waiting.items

abbrev pub decreases-nodes : goal.decreases-nodes
decreases-nodes l = nodes_of l.waiting.items
