use Rattle.matcher_machine.proofs.GivenUp.{given_up_never_ends}
use Rattle.matcher_machine.proofs.laws.runs_that_are_given_up_never_end.Goals as goal

pub returns : goal.returns
returns start code text h c none within given n = given_up_never_ends code text h c none within given n
