use Rattle.test_calling.proofs.facts.expects_the_outer.Goals as goal
use Rattle.test_calling.proofs.WhatIsExpected.{expects_the_outer}

pub returns : goal.returns
returns c = λ classes. expects_the_outer classes
