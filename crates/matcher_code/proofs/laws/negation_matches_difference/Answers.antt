use Rattle.matcher_code.proofs.Characters.{difference_of_sets}
use Rattle.matcher_code.proofs.laws.negation_matches_difference.Goals as goal

pub returns : goal.returns
returns c = λ g classes m a b f h tight x y. difference_of_sets g classes m a b f h tight x y
