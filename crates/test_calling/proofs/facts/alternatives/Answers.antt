use Rattle.test_calling.proofs.facts.alternatives.Goals as goal
use Rattle.test_calling.proofs.WhatTheyDo.{alternatives}

pub returns : goal.returns
returns c = λ classes. alternatives classes
