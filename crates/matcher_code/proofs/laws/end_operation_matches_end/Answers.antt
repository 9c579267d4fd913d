use Rattle.matcher_code.proofs.Ends.{bare_end_performs}
use Rattle.matcher_code.proofs.laws.end_operation_matches_end.Goals as goal

pub returns : goal.returns
returns c = λ code number fail l n w h. bare_end_performs code number fail l n w h
