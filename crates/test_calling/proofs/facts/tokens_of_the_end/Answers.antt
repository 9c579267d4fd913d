use Rattle.test_calling.proofs.facts.tokens_of_the_end.Goals as goal
use Rattle.test_calling.proofs.WhatTheyDo.{tokens_of_the_end}

pub returns : goal.returns
returns c = λ classes. tokens_of_the_end classes
