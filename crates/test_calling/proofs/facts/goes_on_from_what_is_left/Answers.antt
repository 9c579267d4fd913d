use Rattle.test_calling.proofs.facts.goes_on_from_what_is_left.Goals as goal
use Rattle.test_calling.proofs.LooseOnes.{goes_on}

pub returns : goal.returns
returns c = λ classes. goes_on classes
