use Rattle.test_calling.proofs.facts.expects_all.Goals as goal
use Rattle.test_calling.proofs.WhatIsExpected.{expects_all}

pub returns : goal.returns
returns c = λ classes. expects_all classes
