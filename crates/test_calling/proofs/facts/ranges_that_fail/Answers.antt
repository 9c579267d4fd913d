use Rattle.test_calling.proofs.facts.ranges_that_fail.Goals as goal
use Rattle.test_calling.proofs.WhatTheyDo.{ranges_that_fail}

pub returns : goal.returns
returns c = λ classes. ranges_that_fail classes
