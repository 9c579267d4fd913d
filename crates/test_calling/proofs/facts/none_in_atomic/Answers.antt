use Rattle.test_calling.proofs.facts.none_in_atomic.Goals as goal
use Rattle.test_calling.proofs.WhatIsExpected.{none_in_atomic}

pub returns : goal.returns
returns c = λ classes. none_in_atomic classes
