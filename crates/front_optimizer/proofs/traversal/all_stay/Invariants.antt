use Rattle.base_ast.specs.Ast.{expression_of}
use Rattle.front_optimizer.specs.Traversals.{AllStay}
use Rattle.front_optimizer.proofs.Staying.{WaitingStay, nodes_of}
use Rattle.front_optimizer.proofs.traversal.all_stay.Given as goal

abbrev pub invariant-nodes : goal.invariant-nodes
invariant-nodes g l = WaitingStay (g.P.Pass.gives l.pass) l.waiting.items → AllStay (g.P.Pass.gives l.pass) (expression_of l.fn.expr)

abbrev pub decreases-nodes : goal.decreases-nodes
decreases-nodes g l = nodes_of l.waiting.items
