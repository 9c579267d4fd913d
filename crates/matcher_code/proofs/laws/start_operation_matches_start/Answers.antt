use Rattle.matcher_code.proofs.Ends.{start_performs}
use Rattle.matcher_code.proofs.laws.start_operation_matches_start.Goals as goal

pub returns : goal.returns
returns c = λ code number fail l n w h. start_performs code number fail l n w h
