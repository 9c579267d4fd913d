use Rattle.std.proofs.Common.{◌∙◌, arith}
use Rattle.base_ast.specs.Ast.{expression_of}
use Rattle.front_optimizer.proofs.Carried.{carried}
use Rattle.front_optimizer.proofs.Unrolling.{first_copy}
use Rattle.front_optimizer.proofs.unroller.repeat_before.Goals as goal

pub returns : goal.returns
returns c =
    carried c.sequence_of.result
    (λ e h f fs behind. h ∙ first_copy (expression_of c.args.expr.value) _ c.args.count f fs (λ none. omega arith) (c.in_ok-behind.ensures f fs behind))
    c.sequence_of.ensures
