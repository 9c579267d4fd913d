use Rattle.std.proofs.Common.{below_more, subst, arith, true, ◌≡◌}
use Rattle.matcher_code.specs.Bytecodes.{lists_in}
use Rattle.matcher_machine.specs.Kinds.{MayRun}
use Rattle.matcher_machine.proofs.kinds.may_run_table.Goals as goal

pub loop-number-preserved : goal.loop-number-preserved
loop-number-preserved c =
    let code = lists_in c.args.code.now in
    below_more _ _ c.loop-number.invariant (subst (MayRun code c.args.kinds.now c.args.kind) c.label_in.ensures (c.may_run.ensures code c.if-not-may_run.false))

pub returns : goal.returns
returns c = λ (_ : true ≡ true) i h. c.loop-number.invariant i (omega (arith, h, c.loop-number-test.false))
