use Rattle.matcher_code.proofs.CharacterSets.{one_performs}
use Rattle.matcher_code.proofs.laws.one_operation_matches_character.Goals as goal

pub returns : goal.returns
returns c = λ code set ranges is number fail l n w h. one_performs code set ranges is number fail l n w h
