use Rattle.test_calling.proofs.facts.other_readings.Goals as goal
use Rattle.test_calling.proofs.WhatTheyDo.{other_readings}

pub returns : goal.returns
returns c = λ classes. other_readings classes
