use Rattle.std.proofs.Common.{rules, subst, IfOk}
use Rattle.base_ast.specs.Ast.{expression_of}
use Rattle.front_optimizer.specs.Traversals.{TopDown}
use Rattle.front_optimizer.proofs.Mapped.{same_down}
use Rattle.front_optimizer.proofs.Staying.{stays_down}
use Rattle.front_optimizer.proofs.traversal.top_down.Goals as goal

pub returns-then-is_done : goal.returns-then-is_done
returns-then-is_done g c =
    rw c.into_inner-expr.ensures (stays_down (g.P.Pass.gives c.args.pass.now) c.args.expr (rw c.if-is_done.true at c.in_ok-is_done.ensures))

pub returns : goal.returns
returns g c =
    subst (λ x. IfOk c.only_memory.result (λ e. TopDown (g.P.Pass.gives c.args.pass.now) (expression_of x) (expression_of e))) c.into_inner-expr.ensures
    (same_down (g.P.Pass.gives c.args.pass.now) _ _ (λ x y h k. search rules) c.into_inner-expr.result c.map_top_down-mapped.result c.only_memory.result c.map_top_down-mapped.ensures.mapped c.only_memory.ensures)
