use Rattle.test_calling.proofs.facts.negative_predicates.Goals as goal
use Rattle.test_calling.proofs.WhatTheyDo.{negative_predicates}

pub returns : goal.returns
returns c = λ classes. negative_predicates classes
