use Rattle.test_calling.proofs.facts.negative_slices.Goals as goal
use Rattle.test_calling.proofs.WhatTheyDo.{negative_slices}

pub returns : goal.returns
returns c = λ classes. negative_slices classes
