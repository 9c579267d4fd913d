use Rattle.matcher_machine.proofs.kinds.may_run_both.Goals as goal

pub returns-then-may_run : goal.returns-then-may_run
returns-then-may_run c = λ code h. (c.may_run.ensures code c.if-may_run.true, c.may_run-then-may_run.ensures code h)
