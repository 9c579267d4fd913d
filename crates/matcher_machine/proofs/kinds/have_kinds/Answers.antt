use Rattle.std.proofs.Common.{[], below_more, subst}
use Rattle.matcher_code.specs.Bytecodes.{lists_in}
use Rattle.matcher_code.specs.Steps.{op_at}
use Rattle.matcher_machine.specs.Kinds.{IsFramedOp}
use Rattle.matcher_machine.proofs.kinds.have_kinds.Goals as goal

pub loop-label-preserved : goal.loop-label-preserved
loop-label-preserved c =
    let code = lists_in c.args.code.now in
    let kinds = c.args.kinds.now in
    let here = c.loop-label.label in
    below_more _ _ c.loop-label.invariant
    (subst (λ k. IsFramedOp code kinds (op_at code [] here) k) (c.kind_at.ensures code)
    (subst (λ o. IsFramedOp code kinds o c.kind_at.result) c.op_at.ensures (c.has_kind.ensures c.if-not-has_kind.false)))
