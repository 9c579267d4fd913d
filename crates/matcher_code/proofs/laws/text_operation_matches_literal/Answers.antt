use Rattle.matcher_code.proofs.Leaves.{text_performs}
use Rattle.matcher_code.proofs.laws.text_operation_matches_literal.Goals as goal

pub returns : goal.returns
returns c = λ code number fail l n w i b u is h. text_performs code number fail l n w i b u is h
