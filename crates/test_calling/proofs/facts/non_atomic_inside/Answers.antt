use Rattle.test_calling.proofs.facts.non_atomic_inside.Goals as goal
use Rattle.test_calling.proofs.WhatTheyDo.{non_atomic_inside}

pub returns : goal.returns
returns c = λ classes. non_atomic_inside classes
