use Rattle.test_calling.proofs.facts.failures_lose.Goals as goal
use Rattle.test_calling.proofs.LooseOnes.{failures_lose}

pub returns : goal.returns
returns c = λ classes. failures_lose classes
