use Rattle.test_calling.proofs.facts.repeats_in_both.Goals as goal
use Rattle.test_calling.proofs.LooseOnes.{repeats_in_both}

pub returns : goal.returns
returns c = λ classes. repeats_in_both classes
