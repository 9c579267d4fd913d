use Rattle.base_language.proofs.laws.one_place_of_failure.Goals as goal
use Rattle.base_language.proofs.FailurePlaces.{one_place}

pub returns : goal.returns
returns c = λ g classes e m s o d f. one_place g classes d f
