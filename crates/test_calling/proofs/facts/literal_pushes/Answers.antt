use Rattle.test_calling.proofs.facts.literal_pushes.Goals as goal
use Rattle.test_calling.proofs.WhatTagsDo.{literal_pushes}

pub returns : goal.returns
returns c = λ classes. literal_pushes classes
