use Rattle.base_language.proofs.laws.one_outcome.Goals as goal
use Rattle.base_language.proofs.OneOutcome.{same}

pub returns : goal.returns
returns c = λ g classes e m s o p d e'. same g classes d e'
