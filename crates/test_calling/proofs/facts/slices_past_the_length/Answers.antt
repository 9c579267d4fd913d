use Rattle.test_calling.proofs.facts.slices_past_the_length.Goals as goal
use Rattle.test_calling.proofs.WhatTheyDo.{slices_past_the_length}

pub returns : goal.returns
returns c = λ classes. slices_past_the_length classes
