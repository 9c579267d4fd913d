use Rattle.matcher_code.proofs.CharacterSets.{all_performs}
use Rattle.matcher_code.proofs.laws.all_operation_matches_span.Goals as goal

pub returns : goal.returns
returns c = λ code set ranges is number fail l n w h. all_performs code set ranges is number fail l n w h
