use Rattle.matcher_code.proofs.Ends.{end_performs}
use Rattle.matcher_code.proofs.laws.end_operations_give_tree.Goals as goal

pub returns : goal.returns
returns c = λ code number fail m l n w leaf note seen h a k. end_performs code number fail m l n w leaf note seen h a k
