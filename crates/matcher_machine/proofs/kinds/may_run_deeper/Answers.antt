use Rattle.std.proofs.Common.{◌≡◌, arith, subst, suc}
use Rattle.matcher_machine.specs.declared.kinds.Kind.TheVariants.{Within}
use Rattle.matcher_machine.specs.Kinds.{MayRun}
use Rattle.matcher_machine.proofs.kinds.may_run_deeper.Goals as goal

pub returns-in-Some : goal.returns-in-Some
returns-in-Some c = λ code h.
    let e : c.in-Some.more ≡ suc c.in-Within.depth = omega (arith, c.in-Some.ensures) in
    rw c.in-Within.is (subst (λ n. MayRun code c.args.kinds.now (Within c.in-Within.part n) c.args.label) e (c.may_run.ensures code h))
