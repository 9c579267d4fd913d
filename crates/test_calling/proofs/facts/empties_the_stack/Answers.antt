use Rattle.test_calling.proofs.facts.empties_the_stack.Goals as goal
use Rattle.test_calling.proofs.WhatTheyDo.{empties_the_stack}

pub returns : goal.returns
returns c = λ classes. empties_the_stack classes
