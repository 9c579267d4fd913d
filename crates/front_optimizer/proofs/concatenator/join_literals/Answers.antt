use Rattle.std.proofs.Common.{sym, subst}
use Rattle.std.proofs.lemmas.Result.{IfOk-weaker}
use Rattle.base_ast.specs.Ast.{expression_of}
use Rattle.front_optimizer.specs.Traversals.{BottomUp}
use Rattle.front_optimizer.proofs.Concatenated.{from_the_leaves}
use Rattle.front_optimizer.proofs.Joining.{Joined}
use Rattle.front_optimizer.proofs.Staying.{stays_up}
use Rattle.front_optimizer.proofs.concatenator.join_literals.Goals as goal

pub returns-then-is_done : goal.returns-then-is_done
returns-then-is_done c = rw c.into_inner-expr.ensures (stays_up Joined c.args.expr (rw c.if-is_done.true at c.in_ok-is_done.ensures))

pub returns : goal.returns
returns c =
    IfOk-weaker c.with_literals_joined.result _ _
    (λ y h. subst (λ x. BottomUp Joined (expression_of x) (expression_of y)) c.into_inner-expr.ensures (subst (BottomUp Joined (expression_of c.into_inner-expr.result)) (sym h) (from_the_leaves c.into_inner-expr.result)))
    c.with_literals_joined.ensures
