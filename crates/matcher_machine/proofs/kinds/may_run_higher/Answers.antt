use Rattle.std.proofs.Common.{◌≡◌, ◌∙◌, ap, arith, subst, suc, sym}
use Rattle.matcher_machine.specs.declared.kinds.Kind.TheVariants.{Within}
use Rattle.matcher_machine.specs.Kinds.{Higher}
use Rattle.matcher_machine.proofs.kinds.may_run_higher.Goals as goal

pub returns-in-Some : goal.returns-in-Some
returns-in-Some c = λ code h.
    let e : c.in-Within.depth ≡ suc c.in-Some.less = omega (arith, c.in-Some.ensures) in
    subst (λ k. Higher code c.args.kinds.now k c.args.label) (sym (c.in-Within.is ∙ ap (λ n. Within c.in-Within.part n) e)) (c.may_run.ensures code h)
