use Rattle.matcher_machine.proofs.Outlining.{stepped}
use Rattle.matcher_machine.proofs.laws.outlines_go_the_same_way.Goals as goal

pub returns : goal.returns
returns start code text c d = stepped code text c d
