use Rattle.matcher_code.proofs.Characters.{choice_of_sets}
use Rattle.matcher_code.proofs.laws.choice_matches_union.Goals as goal

pub returns : goal.returns
returns c = λ g classes m a b f h x y. choice_of_sets g classes m a b f h x y
