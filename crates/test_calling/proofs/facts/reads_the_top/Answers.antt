use Rattle.test_calling.proofs.facts.reads_the_top.Goals as goal
use Rattle.test_calling.proofs.WhatTheyDo.{reads_the_top}

pub returns : goal.returns
returns c = λ classes. reads_the_top classes
