use Rattle.matcher_machine.proofs.Positions.{near_first, stay_near}
use Rattle.matcher_machine.proofs.laws.runs_stay_near_the_text.Goals as goal

pub returns : goal.returns
returns start code text h c none within n = (stay_near code text h n c (near_first code text c within none)).0
