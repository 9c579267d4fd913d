use Rattle.base_language.proofs.derived.equality_of_errors.Goals as goal
use Rattle.base_language.proofs.Comparisons.{same_error}

pub returns : goal.returns
returns g c = λ a b. same_error a b
