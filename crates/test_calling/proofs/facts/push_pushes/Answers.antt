use Rattle.test_calling.proofs.facts.push_pushes.Goals as goal
use Rattle.test_calling.proofs.WhatTheyDo.{push_pushes}

pub returns : goal.returns
returns c = λ classes. push_pushes classes
