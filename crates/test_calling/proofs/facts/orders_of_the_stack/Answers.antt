use Rattle.test_calling.proofs.facts.orders_of_the_stack.Goals as goal
use Rattle.test_calling.proofs.WhatTheyDo.{orders_of_the_stack}

pub returns : goal.returns
returns c = λ classes. orders_of_the_stack classes
