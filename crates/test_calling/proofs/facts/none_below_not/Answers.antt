use Rattle.test_calling.proofs.facts.none_below_not.Goals as goal
use Rattle.test_calling.proofs.WhatIsExpected.{none_below_not}

pub returns : goal.returns
returns c = λ classes. none_below_not classes
