use Rattle.matcher_machine.proofs.Circling.{does_not_come_back}
use Rattle.matcher_machine.proofs.laws.runs_that_end_do_not_come_back.Goals as goal

pub returns : goal.returns
returns start code text c d r n p b = does_not_come_back code text c d r n p b
